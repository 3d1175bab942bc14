-- What lists have for the arcs of a month.
use Rattle.std.specs.Prelude.{◌≡◌, ℕ, ◌+◌, ◌<◌, true, List, length, slice_index, slice_get, Some}
use Rattle.finite_sums.specs.Sums.{count_where}
use Rattle.water_model.specs.Basin.{tail_of, head_of, is_outlet, taking_node}
use Rattle.water_model.specs.Plans.{carry_of}
use Rattle.water_text.specs.declared.month.Month.{Month}
use Rattle.water_model.specs.declared.types.Basin.{Basin}
use Rattle.water_model.specs.declared.types.Plan.{Plan}
use Rattle.circulation.specs.declared.Ends.{Ends}
use Rattle.senior_hold.specs.MonthNetwork.{takes, take_arc, out_arc, right_arc, right_exit, spill_arc}
use Rattle.senior_hold.specs.declared.arcs.Arcs.{Arcs}
use Rattle.senior_hold.specs.declared.arcs.Position.{Position}

-- the arcs of rights, and that of the first node's spill
pub record AreArcs (b : Basin) (arcs : Arcs) : Type 0 where
  pub right_count : length arcs.rights.items ≡ length b.rights
  pub right : (r : ℕ) → r < length b.rights → slice_index arcs.rights.items r ≡ right_arc b r
  pub spill : arcs.spill ≡ spill_arc b 0

-- a right with its arc and its exit
abbrev pub position_of : Basin → ℕ → Position
position_of b right = record { right = right; arc = right_arc b right; exit = right_exit b right }

-- these are the rights in an order
pub record ArePositions (b : Basin) (order : List ℕ) (positions : List Position) : Type 0 where
  pub count : length positions ≡ length order
  pub position : (k : ℕ) → k < length order → slice_get positions k ≡ Some (position_of b (slice_index order k))

-- the ends of the arcs of the first `links` links, `rights` rights and `nodes` nodes
pub record AreEndsOf (b : Basin) (ends : List Ends) (links rights nodes : ℕ) : Type 0 where
  pub count : length ends ≡ links + (count_where rights (λ r. takes b r) + count_where nodes (λ n. is_outlet b n))
  pub link : (e : ℕ) → e < links → slice_get ends e ≡ Some (record { from = tail_of b e; to = head_of b e })
  pub take : (r v : ℕ) → r < rights → taking_node b r ≡ Some v →
      slice_get ends (take_arc b r) ≡ Some (record { from = v; to = length b.nodes })
  pub out : (n : ℕ) → n < nodes → is_outlet b n ≡ true →
      slice_get ends (out_arc b n) ≡ Some (record { from = n; to = length b.nodes })

-- the ends of all arcs
abbrev pub AreEnds : Basin → List Ends → Type 0
AreEnds b ends = AreEndsOf b ends (length b.links) (length b.rights) (length b.nodes)

-- the amounts of a plan on the arcs of the first `links` links, `rights` rights and `nodes` nodes
pub record AreAmountsOf (b : Basin) (p : Plan) (g : ℕ → ℕ) (links rights nodes : ℕ) : Type 0 where
  pub on_links : (e : ℕ) → e < links → g e ≡ slice_index p.flow e
  pub on_takes : (r : ℕ) → r < rights → takes b r ≡ true → g (take_arc b r) ≡ slice_index p.take r
  pub on_outs : (n : ℕ) → n < nodes → is_outlet b n ≡ true → g (out_arc b n) ≡ slice_index p.out n

-- the amounts of a plan by arc
abbrev pub AreAmounts : Basin → Plan → (ℕ → ℕ) → Type 0
AreAmounts b p g = AreAmountsOf b p g (length b.links) (length b.rights) (length b.nodes)

-- the carries of links, the wants of rights, and at each outlet its amount of `most`
pub record AreBounds (b : Basin) (month : Month) (want : List ℕ) (most upper : ℕ → ℕ) : Type 0 where
  pub on_links : (e : ℕ) → e < length b.links → upper e ≡ carry_of b month e
  pub on_takes : (r : ℕ) → r < length b.rights → takes b r ≡ true → upper (take_arc b r) ≡ slice_index want r
  pub on_outs : (n : ℕ) → n < length b.nodes → is_outlet b n ≡ true → upper (out_arc b n) ≡ most n
