-- From each node rivers lead to the outside, with room in every flow.
use Rattle.std.proofs.Common.{◌≡◌, ◌≢◌, ℕ, zero, suc, ◌+◌, ◌<◌, ◌≤◌, ◌^◌, Bool, true, false, refl, sym, ◌∙◌, ap, subst}
use Rattle.std.proofs.Common.{arith, List, [], ◌∷◌, length, inl, inr}
use Rattle.std.proofs.lemmas.Bool.{cases_Bool}
use Rattle.std.specs.Prelude.{slice_index, is_some}
use Rattle.finite_sums.specs.Sums.{total, when}
use Rattle.finite_sums.proofs.Totals.{total_same, total_zero}
use Rattle.water_model.specs.Basin.{head_of, is_outlet}
use Rattle.water_model.specs.Valid.{IsValidBasin}
use Rattle.water_text.specs.declared.month.Month.{Month}
use Rattle.water_model.specs.declared.types.Basin.{Basin}
use Rattle.water_model.proofs.Carries.{river_carry}
use Rattle.water_model.proofs.Valid.{ends}
use Rattle.river_net.proofs.Ranks.{ranks}
use Rattle.circulation.specs.Network.{Network, IsFlow, enters}
use Rattle.augment.specs.Raised.{HasPathOut}
use Rattle.circulation.proofs.WaysOut.{Rises, LeadsOn, up_to, none_enters, carries_at_most, way_out}
use Rattle.senior_hold.specs.MonthNetwork.{out_arc, spill_arc, right_arc, arc_by_link, arc_count, IsMonthNetwork}
use Rattle.senior_hold.specs.Spilled.{spilled}
use Rattle.senior_hold.proofs.SpilledArcs.{spilled_count, spilled_outlet, spill_is}
use Rattle.senior_hold.proofs.MonthArcs.{IsKind, on_link, at_node, IsArc, is_link, is_take, is_out, arc_is}
use Rattle.senior_hold.proofs.MonthArcs.{out_arc_below}
use Rattle.water_model.specs.Network.{IsForward, HasRiverOut}

-- each arc that leads to a basin node is a link, and rises
arc_rises : (b : Basin) (month : Month) (supply want : List ℕ) (rank : ℕ → ℕ) (w : Network) (a : ℕ) → IsValidBasin b →
    IsMonthNetwork (spilled b) month supply want w → IsForward b.links rank → a < w.arcs → Rises w rank a
arc_rises b month supply want rank w a valid net forward l inner =
    of_arc (arc_is (spilled b) a (let n = net.ends.arcs in omega arith))
  where
    of_arc : IsArc (spilled b) a → (w.from a < w.nodes) × (rank (w.from a) < rank (w.to a))
    of_arc (is_link k) =
        let from = net.ends.link_from a k in
        let e = ap rank from in
        let f = ap rank (net.ends.link_to a k) in
        (omega (arith, (ends b valid a k).0, net.ends.nodes, spilled_count b), omega (arith, forward.runs a k))
    of_arc (is_take r k h e) = absurd (omega (arith, inner, ap w.to (sym e), net.ends.take_to r k h, net.ends.nodes))
    of_arc (is_out n k h e) = absurd (omega (arith, inner, ap w.to (sym e), net.ends.out_to n k h, net.ends.nodes))

-- so no arc carries more than the whole supply
pub flow_small : (b : Basin) (month : Month) (supply want : List ℕ) (rank : ℕ → ℕ) (w : Network) (g : ℕ → ℕ) (a : ℕ) →
    IsValidBasin b → IsMonthNetwork (spilled b) month supply want w → IsForward b.links rank → IsFlow w g → a < w.arcs →
    w.from a < w.nodes → g a ≤ total (length b.nodes) (λ n. slice_index supply n)
flow_small b month supply want rank w g a valid net forward flow l inside =
    omega (
      arith,
      carries_at_most rank a flow l inside (arc_rises b month supply want rank w a valid net forward l),
      total_zero w.arcs (λ x. when (enters w (up_to w rank (w.from a)) x) (g x)) (λ x k.
          none_enters w rank g (w.from a) x (λ inner.
          let up = arc_rises b month supply want rank w x valid net forward k inner in (up.0, omega (arith, up.1)))),
      ap (λ n. total n w.supply) (net.ends.nodes ∙ spilled_count b)
          ∙ total_same (length b.nodes) w.supply (λ n. slice_index supply n)
          (λ n k. net.supplies n (omega (arith, k, spilled_count b))),
    )

-- a river, or an outlet's spill, leads on from each node after the tail of an arc
leads_on : (b : Basin) (month : Month) (supply want : List ℕ) (rank : ℕ → ℕ) (w : Network) (r v : ℕ) →
    IsValidBasin b → IsMonthNetwork (spilled b) month supply want w → IsForward b.links rank →
    ((n : ℕ) → n < length b.nodes → is_outlet b n ≡ true → w.upper (spill_arc b n) ≡ 10 ^ 15) →
    total (length b.nodes) (λ n. slice_index supply n) < 10 ^ 15 → v < w.nodes → rank (w.from r) < rank v →
    LeadsOn w r rank v
leads_on b month supply want rank w r v valid net forward open_out bounded l after =
    elim (cases_Bool (is_outlet b v)) [ inl outlet ↦ by_out outlet | inr inner ↦ by_river (valid.network.rivers v l' inner) ]
  where
    l' : v < length b.nodes
    l' = omega (arith, l, net.ends.nodes, spilled_count b)

    small : (g : ℕ → ℕ) (a : ℕ) → IsFlow w g → a < w.arcs → w.from a ≡ v → g a < 10 ^ 15
    small g a flow k from =
        omega (arith, flow_small b month supply want rank w g a valid net forward flow k (omega arith), bounded)

    differs : (a : ℕ) → w.from a ≡ v → a ≢ r
    differs a e same = let f = ap rank e in let g = ap (λ x. rank (w.from x)) same in absurd (omega arith)

    by_out : is_outlet b v ≡ true → LeadsOn w r rank v
    by_out outlet =
        let inside : v < length (spilled b).nodes = omega (arith, l', spilled_count b) in
        let from = net.ends.out_from v inside (spilled_outlet b v l') in
        let below : out_arc (spilled b) v < w.arcs =
        omega (arith, net.ends.arcs, out_arc_below (spilled b) v inside (spilled_outlet b v l')) in
        record {
          arc = out_arc (spilled b) v;
          below = below;
          from = from;
          other = differs (out_arc (spilled b) v) from;
          room = λ g flow. omega (
            arith,
            small g (out_arc (spilled b) v) flow below from,
            ap w.upper (spill_is b v (omega (arith, l'))) ∙ open_out v l' outlet,
          );
          to = inl (net.ends.out_to v inside (spilled_outlet b v l') ∙ sym net.ends.nodes);
        }

    by_river : HasRiverOut b.links v → LeadsOn w r rank v
    by_river river =
        let e : ℕ = river.link in
        let k : e < length b.links = river.in_range in
        let from : w.from e ≡ v = net.ends.link_from e k ∙ river.tail in
        let to = net.ends.link_to e k in
        let below : e < w.arcs = (let n = net.ends.arcs in omega arith) in
        record {
          arc = e;
          below = below;
          from = from;
          other = differs e from;
          room = λ g flow. omega (
            arith,
            net.link_upper e k,
            river_carry b month e river.river,
            small g e flow below from,
          );
          to = inr (
            omega (arith, to, (ends b valid e k).1, net.ends.nodes, spilled_count b),
            omega (arith, ap rank river.tail, ap rank to, forward.runs e k),
          );
        }

-- the head of a right's arc has a way out
pub path_out : (b : Basin) (month : Month) (supply want : List ℕ) (w : Network) (r : ℕ) → IsValidBasin b →
    IsMonthNetwork (spilled b) month supply want w →
    ((n : ℕ) → n < length b.nodes → is_outlet b n ≡ true → w.upper (spill_arc b n) ≡ 10 ^ 15) →
    total (length b.nodes) (λ n. slice_index supply n) < 10 ^ 15 → r < length b.rights → IsKind b r →
    HasPathOut w (right_arc b r)
path_out b month supply want w r valid net open_out bounded l (on_link e k i t) =
    subst (λ a. HasPathOut w a) (sym (ap (arc_by_link b r) i))
    (let rank : ℕ → ℕ = (ranks b valid).rank in
    let from = net.ends.link_from e k in
    let to = net.ends.link_to e k in
    let runs = (ranks b valid).forward.runs e k in
    let f = ap rank from in
    let inside : w.to e < w.nodes = omega (arith, to, (ends b valid e k).1, net.ends.nodes, spilled_count b) in
    let found = way_out w e rank (suc (rank (w.from e)))
    (λ v k after. leads_on b month supply want rank w e v valid net (ranks b valid).forward open_out bounded k
    (omega arith)) (w.to e) inside (omega (arith, f, ap rank to, runs)) in
    record { path = found.0; leads = found.1 })
path_out b month supply want w r valid net open_out bounded l (at_node v k i t) =
    subst (λ a. HasPathOut w a) (sym (ap (arc_by_link b r) i))
    record { path = []; leads = net.ends.take_to r l (ap is_some t) ∙ sym net.ends.nodes }
