-- Stops: sets of nodes that show why a draw is no greater.
use Rattle.std.specs.Prelude.{◌≡◌, ◌⊎◌, ℕ, ◌+◌, ◌<◌, Bool, true, false, List, length, slice_index, Some, None}
use Rattle.finite_sums.specs.Sums.{total_where}
use Rattle.water_model.specs.Lookups.{has}
use Rattle.water_model.specs.Cuts.{enters, leaves}
use Rattle.water_model.specs.CutSets.{CutSets, set_of, with_set}
use Rattle.water_model.specs.Plans.{carry_of}
use Rattle.draw_course.specs.Draws.{MonthDraws, diversion_of, reservoir_of}

-- the most that can come to a set of nodes: the supply in it, what links that enter it carry, and what was drawn on
-- reservoirs in it
abbrev pub stop_brings : MonthDraws → List Bool → ℕ
stop_brings m set =
    total_where (length m.basin.nodes) (λ n. has set n) (λ n. slice_index m.supply n)
    + total_where (length m.basin.links) (λ e. enters m.basin set e) (λ e. carry_of m.basin m.month e)
    + total_where (length m.draws) (λ k. has set (reservoir_of m.draws k)) (λ k. slice_index m.drawn k)

-- the least that must leave it or stay: what is held on links that leave it, what is taken in it before any draw, and
-- what diversions in it drew
abbrev pub stop_wants : MonthDraws → List Bool → ℕ
stop_wants m set =
    total_where (length m.basin.links) (λ e. leaves m.basin set e) (λ e. slice_index m.held e)
    + total_where (length m.basin.nodes) (λ n. has set n) (λ n. slice_index m.taken n)
    + total_where (length m.draws) (λ k. has set (diversion_of m.draws k)) (λ k. slice_index m.drawn k)

-- a set with the node of the draw's diversion and without that of its reservoir, in which nothing is left over
pub record IsStop (m : MonthDraws) (k : ℕ) (set : List Bool) : Type 0 where
  pub one_each : length set ≡ length m.basin.nodes
  pub diversion : has set (diversion_of m.draws k) ≡ true
  pub reservoir : has set (reservoir_of m.draws k) ≡ false
  pub tight : stop_brings m set ≡ stop_wants m set

-- a set may be given to the draw
pub record CanHaveStop (count : ℕ) (stops : CutSets) (k : ℕ) : Type 0 where
  pub draw : k < length stops.sets
  pub nodes : stops.nodes ≡ count
  pub free : set_of stops k ≡ None

-- the draw is its cap and has no set, or is less and its set is a stop of it
abbrev pub IsFullOrStopped : MonthDraws → (k cap amount : ℕ) → (before after : CutSets) → Type 0
IsFullOrStopped m k cap amount before after =
    ((amount ≡ cap) × (after ≡ before))
    ⊎ ((amount < cap) × ((set : List Bool) × ((after ≡ with_set before k (Some set)) × IsStop m k set)))
