-- The arcs of a basin with an outlet at each node.
use Rattle.std.proofs.Common.{◌≡◌, ℕ, zero, suc, ◌+◌, ◌<◌, ◌≤◌, true, refl, ap, ◌∙◌, arith, List, [], ◌∷◌, length, map}
use Rattle.std.proofs.lemmas.List.{length-map}
use Rattle.std.specs.Prelude.{if◌then◌else◌}
use Rattle.finite_sums.specs.Sums.{count_where}
use Rattle.finite_sums.proofs.Totals.{count_more, total_where_start}
use Rattle.water_model.specs.Basin.{is_outlet}
use Rattle.water_model.specs.Network.{is_outlet_in}
use Rattle.water_model.specs.declared.types.Basin.{Basin}
use Rattle.water_model.specs.declared.types.Node.{Node}
use Rattle.senior_hold.specs.MonthNetwork.{taker_count, arc_count, out_arc, spill_arc}
use Rattle.senior_hold.specs.Spilled.{let_out, spilled}
use Rattle.senior_hold.proofs.MonthArcs.{IsKind, on_link, at_node, AreKinds}

pub spilled_count : (b : Basin) → length (spilled b).nodes ≡ length b.nodes
spilled_count b = length-map b.nodes let_out

pub spilled_outlet : (b : Basin) (n : ℕ) → n < length b.nodes → is_outlet (spilled b) n ≡ true
spilled_outlet b n l = each b.nodes n l
  where
    each : (xs : List Node) (n : ℕ) → n < length xs → is_outlet_in (map let_out xs) n ≡ true
    each [] n l = absurd (omega arith)
    each (x ∷ xs) zero l = refl
    each (x ∷ xs) (suc n) l = each xs n (omega arith)

-- all nodes before one are outlets
pub spilled_before : (b : Basin) (n : ℕ) → n ≤ length b.nodes → count_where n (λ v. is_outlet (spilled b) v) ≡ n
spilled_before b zero l = total_where_start (λ v. is_outlet (spilled b) v) (λ k. 1)
spilled_before b (suc n) l =
    let one : (if is_outlet (spilled b) n then 1 else 0) ≡ 0 + 1 =
    ap (λ t. if t then 1 else 0) (spilled_outlet b n (omega arith)) in
    omega (arith, count_more n (λ v. is_outlet (spilled b) v), spilled_before b n (omega arith), one)

-- the arc of a node's spill
pub spill_is : (b : Basin) (n : ℕ) → n ≤ length b.nodes → out_arc (spilled b) n ≡ spill_arc b n
spill_is b n l = ap (λ k. length b.links + (taker_count b + k)) (spilled_before b n l)

pub spilled_arcs : (b : Basin) → arc_count (spilled b) ≡ spill_arc b (length b.nodes)
spilled_arcs b = ap (λ k. length b.links + (taker_count b + count_where k (λ v. is_outlet (spilled b) v)))
    (spilled_count b) ∙ spill_is b (length b.nodes) (omega arith)

pub spilled_kinds : (b : Basin) → AreKinds b → AreKinds (spilled b)
spilled_kinds b kinds r l = of_kind (kinds r l)
  where
    of_kind : IsKind b r → IsKind (spilled b) r
    of_kind (on_link e k i t) = on_link e k i t
    of_kind (at_node v k i t) = at_node v (omega (arith, spilled_count b)) i t
