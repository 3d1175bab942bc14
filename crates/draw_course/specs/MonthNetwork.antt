-- The network of a month's draws.
use Rattle.std.specs.Prelude.{◌≡◌, ℕ, ◌^◌, ◌<◌, ◌==◌, if◌then◌else◌, List, length, slice_index}
use Rattle.finite_sums.specs.Sums.{when}
use Rattle.water_model.specs.Basin.{tail_of, head_of, is_outlet}
use Rattle.water_model.specs.Plans.{carry_of}
use Rattle.water_model.specs.declared.types.Basin.{Basin}
use Rattle.water_model.specs.Valid.{IsValidBasin}
use Rattle.circulation.specs.Contents.{Contents, network, IsCirculation}
use Rattle.circulation.specs.Network.{Network}
use Rattle.draw_course.specs.Draws.{MonthDraws, AreDraws, FitsMonth, diversion_of, reservoir_of}
use Rattle.draw_course.specs.Arcs.{arc_count, take_arc, out_arc, draw_arc, draw_head}
use Rattle.draw_course.specs.declared.draws.DrawNodes.{DrawNodes}

-- the arcs have their ends
pub record HasCourseEnds (b : Basin) (draws : List DrawNodes) (w : Network) : Type 0 where
  pub nodes : w.nodes ≡ length b.nodes
  pub arcs : w.arcs ≡ arc_count b (length draws)
  pub link_from : (e : ℕ) → e < length b.links → w.from e ≡ tail_of b e
  pub link_to : (e : ℕ) → e < length b.links → w.to e ≡ head_of b e
  pub take_from : (n : ℕ) → n < length b.nodes → w.from (take_arc b n) ≡ n
  pub take_to : (n : ℕ) → n < length b.nodes → w.to (take_arc b n) ≡ length b.nodes
  pub out_from : (n : ℕ) → n < length b.nodes → w.from (out_arc b n) ≡ n
  pub out_to : (n : ℕ) → n < length b.nodes → w.to (out_arc b n) ≡ length b.nodes
  pub draw_from : (k : ℕ) → k < length draws → w.from (draw_arc b k) ≡ diversion_of draws k
  pub draw_to : (k : ℕ) → k < length draws → w.to (draw_arc b k) ≡ draw_head b draws k

-- what the arc of a draw carries: nothing where the diversion stands at the reservoir, as then nothing has to move
abbrev pub moved : MonthDraws → ℕ → ℕ
moved m k = if diversion_of m.draws k == reservoir_of m.draws k then 0 else slice_index m.drawn k

-- links carry what they may and hold what they must, at each node exactly what is taken before any draw is taken, water
-- leaves at outlets alone, and draws have these bounds
pub record IsCourseNetwork (m : MonthDraws) (least most : ℕ → ℕ) (w : Network) : Type 0 where
  pub ends : HasCourseEnds m.basin m.draws w
  pub supplies : (n : ℕ) → n < length m.basin.nodes → w.supply n ≡ slice_index m.supply n
  pub link_lower : (e : ℕ) → e < length m.basin.links → w.lower e ≡ slice_index m.held e
  pub link_upper : (e : ℕ) → e < length m.basin.links → w.upper e ≡ carry_of m.basin m.month e
  pub take_lower : (n : ℕ) → n < length m.basin.nodes → w.lower (take_arc m.basin n) ≡ slice_index m.taken n
  pub take_upper : (n : ℕ) → n < length m.basin.nodes → w.upper (take_arc m.basin n) ≡ slice_index m.taken n
  pub out_lower : (n : ℕ) → n < length m.basin.nodes → w.lower (out_arc m.basin n) ≡ 0
  pub out_upper : (n : ℕ) → n < length m.basin.nodes →
      w.upper (out_arc m.basin n) ≡ when (is_outlet m.basin n) (10 ^ 15)
  pub draw_lower : (k : ℕ) → k < length m.draws → w.lower (draw_arc m.basin k) ≡ least k
  pub draw_upper : (k : ℕ) → k < length m.draws → w.upper (draw_arc m.basin k) ≡ most k

-- a month in its network: a flow in which each draw has what was drawn
pub record Stands (m : MonthDraws) (c : Contents) : Type 0 where
  pub valid : IsValidBasin m.basin
  pub draws : AreDraws m.basin m.draws
  pub fits : FitsMonth m
  pub kept : IsCirculation c
  pub net : IsCourseNetwork m (moved m) (moved m) (network c)
