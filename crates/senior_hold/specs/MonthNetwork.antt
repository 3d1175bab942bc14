-- A month's network: the links, then the takes, then the outflows, both to the outside node.
use Rattle.std.specs.Prelude.{◌≡◌, ℕ, ◌+◌, ◌*◌, ◌<◌, ◌&&◌, Bool, true, List, map, length, slice_index, Option, Some}
use Rattle.std.specs.Prelude.{None, is_some}
use Rattle.std.specs.List.{range_with_len}
use Rattle.finite_sums.specs.Sums.{when, count_where, greatest_where}
use Rattle.water_model.specs.Basin.{tail_of, head_of, is_outlet, taking_node, instream_link, is_on_link}
use Rattle.water_model.specs.Plans.{carry_of}
use Rattle.water_text.specs.declared.month.Month.{Month}
use Rattle.water_model.specs.declared.types.Basin.{Basin}
use Rattle.water_model.specs.declared.types.Plan.{Plan}
use Rattle.circulation.specs.Network.{Network}

-- whether a right takes water: diversions and zones do
abbrev pub takes : Basin → ℕ → Bool
takes b right = is_some (taking_node b right)

abbrev pub taker_count : Basin → ℕ
taker_count b = count_where (length b.rights) (λ r. takes b r)

abbrev pub outlet_count : Basin → ℕ
outlet_count b = count_where (length b.nodes) (λ n. is_outlet b n)

-- how many arcs there are
abbrev pub arc_count : Basin → ℕ
arc_count b = length b.links + (taker_count b + outlet_count b)

-- how often the searches of a month push at most, whatever its amounts
abbrev pub month_pushes : Basin → ℕ
month_pushes b = length b.rights * (30 * (2 * arc_count b + 2))

-- the arc of a right that takes, and that of an outlet
abbrev pub take_arc : Basin → ℕ → ℕ
take_arc b right = length b.links + count_where right (λ r. takes b r)

abbrev pub out_arc : Basin → ℕ → ℕ
out_arc b node = length b.links + (taker_count b + count_where node (λ n. is_outlet b n))

-- the arc of a node's spill, where each node has one: after the links and the takes
abbrev pub spill_arc : Basin → ℕ → ℕ
spill_arc b node = length b.links + (taker_count b + node)

-- the arc of a right: its link, or its take
abbrev pub arc_by_link : Basin → ℕ → Option ℕ → ℕ
arc_by_link b right None = take_arc b right
arc_by_link b right (Some link) = link

abbrev pub right_arc : Basin → ℕ → ℕ
right_arc b right = arc_by_link b right (instream_link b right)

-- the exit of a right: the spill of the node that its arc enters, or the first where that enters the outside
abbrev pub exit_by_link : Basin → Option ℕ → ℕ
exit_by_link b None = spill_arc b 0
exit_by_link b (Some link) = spill_arc b (head_of b link)

abbrev pub right_exit : Basin → ℕ → ℕ
right_exit b right = exit_by_link b (instream_link b right)

-- the arcs have their ends
pub record HasBasinEnds (b : Basin) (w : Network) : Type 0 where
  pub nodes : w.nodes ≡ length b.nodes
  pub arcs : w.arcs ≡ arc_count b
  pub link_from : (e : ℕ) → e < length b.links → w.from e ≡ tail_of b e
  pub link_to : (e : ℕ) → e < length b.links → w.to e ≡ head_of b e
  pub take_from : (r : ℕ) → r < length b.rights → takes b r ≡ true → taking_node b r ≡ Some (w.from (take_arc b r))
  pub take_to : (r : ℕ) → r < length b.rights → takes b r ≡ true → w.to (take_arc b r) ≡ length b.nodes
  pub out_from : (n : ℕ) → n < length b.nodes → is_outlet b n ≡ true → w.from (out_arc b n) ≡ n
  pub out_to : (n : ℕ) → n < length b.nodes → is_outlet b n ≡ true → w.to (out_arc b n) ≡ length b.nodes

-- the arcs carry at most what links carry and what is wanted
pub record IsMonthNetwork (b : Basin) (month : Month) (supply want : List ℕ) (w : Network) : Type 0 where
  pub ends : HasBasinEnds b w
  pub link_upper : (e : ℕ) → e < length b.links → w.upper e ≡ carry_of b month e
  pub take_upper : (r : ℕ) → r < length b.rights → takes b r ≡ true → w.upper (take_arc b r) ≡ slice_index want r
  pub supplies : (n : ℕ) → n < length b.nodes → w.supply n ≡ slice_index supply n

-- the lowers hold what the rights that pass the test were delivered
pub record KeepsForSeniors (b : Basin) (delivered : List ℕ) (served : ℕ → Bool) (w : Network) : Type 0 where
  pub on_links : (e : ℕ) → e < length b.links →
      w.lower e ≡ greatest_where (length b.rights) (λ s. is_on_link b s e && served s) (λ s. slice_index delivered s)
  pub on_takes : (r : ℕ) → r < length b.rights → takes b r ≡ true →
      w.lower (take_arc b r) ≡ (when (served r) (slice_index delivered r))
  pub on_outs : (n : ℕ) → n < length b.nodes → is_outlet b n ≡ true → w.lower (out_arc b n) ≡ 0

-- the list of f 0, f 1, .. f (n - 1)
abbrev pub list_of : {X : Type 0} → ℕ → (ℕ → X) → List X
list_of n f = map f (range_with_len 0 n)

-- the plan of a flow
abbrev pub plan_of : Basin → (ℕ → ℕ) → Plan
plan_of b g = record {
  flow = list_of (length b.links) g;
  take = list_of (length b.rights) (λ r. when (takes b r) (g (take_arc b r)));
  out = list_of (length b.nodes) (λ n. when (is_outlet b n) (g (out_arc b n)));
}
