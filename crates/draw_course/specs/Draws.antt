-- Draws, and what a month keeps while owners draw.
use Rattle.std.specs.Prelude.{ℕ, ◌^◌, ◌<◌, ◌≤◌, ◌≡◌, List, length, slice_index, slice_set}
use Rattle.finite_sums.specs.Sums.{total}
use Rattle.water_text.specs.declared.month.Month.{Month}
use Rattle.water_model.specs.Lookups.{of_entry}
use Rattle.water_model.specs.declared.types.Basin.{Basin}
use Rattle.draw_course.specs.declared.draws.DrawNodes.{DrawNodes}

-- the node of the diversion of a draw, and that of its reservoir
abbrev pub diversion_of : List DrawNodes → ℕ → ℕ
diversion_of draws k = of_entry draws k (λ d. d.diversion) 0

abbrev pub reservoir_of : List DrawNodes → ℕ → ℕ
reservoir_of draws k = of_entry draws k (λ d. d.reservoir) 0

-- draws between nodes of the basin, and as many as there may be
pub record AreDraws (b : Basin) (draws : List DrawNodes) : Type 0 where
  pub count : length draws ≤ 4000
  pub diversions : (k : ℕ) → k < length draws → diversion_of draws k < length b.nodes
  pub reservoirs : (k : ℕ) → k < length draws → reservoir_of draws k < length b.nodes

-- a basin and its draws
pub record BasinDraws : Type 0 where
  pub basin : Basin
  pub draws : List DrawNodes

-- a month of them: the supply of each node, what is taken at each node before any draw, and what is held on each link
-- for instream rights; and what was drawn so far, by draw, 0 of one that has not had its turn
pub record MonthDraws : Type 0 where
  pub basin : Basin
  pub draws : List DrawNodes
  pub month : Month
  pub supply : List ℕ
  pub taken : List ℕ
  pub held : List ℕ
  pub drawn : List ℕ

-- the same with another amount of one draw
abbrev pub with_draw : MonthDraws → ℕ → ℕ → MonthDraws
with_draw m k amount = record m { drawn = slice_set m.drawn k amount }

-- the lists have an amount for each node, link and draw, and the supply is so little that it may all run down one river
pub record FitsMonth (m : MonthDraws) : Type 0 where
  pub supply : length m.supply ≡ length m.basin.nodes
  pub taken : length m.taken ≡ length m.basin.nodes
  pub held : length m.held ≡ length m.basin.links
  pub drawn : length m.drawn ≡ length m.draws
  pub small : total (length m.basin.nodes) (λ n. slice_index m.supply n) < 10 ^ 14
  pub draws : (k : ℕ) → k < length m.draws → slice_index m.drawn k ≤ 10 ^ 9
