-- Serving one right after another.
use Rattle.std.proofs.Common.{◌≡◌, ◌≢◌, ℕ, ◌+◌, ◌<◌, ◌≤◌, Bool, true, false, sym, ◌∙◌, ap, subst, arith, List, length}
use Rattle.std.proofs.Common.{inl, inr, get_or-set_same, get_or-set_other}
use Rattle.std.proofs.lemmas.Bool.{cases_eq}
use Rattle.std.proofs.lemmas.Bool.Decides.{nat_tests}
use Rattle.std.proofs.lemmas.List.{length-set}
use Rattle.std.specs.Prelude.{◌&&◌, slice_index, max, min, nat_lt, Some, None}
use Rattle.finite_sums.specs.Sums.{when, greatest_where}
use Rattle.finite_sums.proofs.Totals.{greatest_where_le, greatest_same_tests}
use Rattle.water_model.specs.Basin.{is_senior, is_on_link}
use Rattle.water_model.specs.CutSets.{CutSets, set_of}
use Rattle.water_text.specs.declared.month.Month.{Month}
use Rattle.water_model.specs.declared.types.Basin.{Basin}
use Rattle.circulation.specs.Contents.{Contents, network, flow_of, IsCirculation}
use Rattle.circulation.specs.Network.{Network, IsFlow, IsGreatestCut}
use Rattle.senior_hold.specs.MonthNetwork.{take_arc, out_arc, right_arc, arc_count, IsMonthNetwork, KeepsForSeniors}
use Rattle.senior_hold.proofs.MonthArcs.{AreKinds, take_arc_below, out_arc_below}
use Rattle.senior_hold.proofs.Bridge.{greatest_reach}
use Rattle.senior_hold.proofs.Plans.{right_arc_in}
use Rattle.senior_hold.proofs.Sweeps.{got, swept_same, swept_next}
use Rattle.water_model.proofs.SetEntries.{set_of_with, set_of_other}
use Rattle.water_model.specs.Lookups.{has}
use Rattle.rights_roll.specs.SeniorityOrder.{IsSeniorityOrder}
use Rattle.senior_hold.specs.Serving.{IsServed, IsMetOrCut, held_lower}
use Rattle.senior_hold.specs.declared.serving.Claim.{Claim}
use Rattle.senior_hold.specs.Solved.{IsMetOrReached, FitsCuts}
use Rattle.senior_hold.proofs.Swept.{delivered_by, deliveries_by, IsSwept}

-- how a month stands after the first k rights
pub record IsStanding (b : Basin) (month : Month) (supply want order : List ℕ) (k : ℕ) (c : Contents)
    (cuts : CutSets) : Type 0 where
  pub net : IsMonthNetwork b month supply want (network c)
  pub size : length c.lower ≡ arc_count b
  pub swept : (o : IsSeniorityOrder b.rights order) → IsSwept b month supply want o.place k (network c) (flow_of c) cuts
  pub cut_nodes : cuts.nodes ≡ length b.nodes
  pub cut_rights : length cuts.sets ≡ length b.rights

never_below : (m : ℕ) → nat_lt m 0 ≡ false
never_below m = grind (arith, nat_tests)

no_second : (p q : Bool) → q ≡ false → p && q ≡ true → ⊥
no_second p q h i = grind (arith, nat_tests)

-- before any right is served no arc is held
pub standing_first : (b : Basin) (month : Month) (supply want order : List ℕ) (c : Contents) (cuts : CutSets) →
    IsMonthNetwork b month supply want (network c) → IsFlow (network c) (flow_of c) → length c.lower ≡ arc_count b →
    ((a : ℕ) → a < arc_count b → slice_index c.lower a ≡ 0) → FitsCuts b cuts →
    ((r : ℕ) → r < length b.rights → set_of cuts r ≡ None) → IsStanding b month supply want order 0 c cuts
standing_first b month supply want order c cuts net is_flow size free fits_cuts no_sets = record {
  net = net;
  size = size;
  swept = λ o. record {
    flow = is_flow;
    held = record {
      on_links = λ e l. free e (omega arith)
          ∙ (let most = greatest_where_le (length b.rights) (λ s. is_on_link b s e && nat_lt (o.place s) 0)
          (λ s. slice_index (deliveries_by b want (flow_of c)) s) 0
          (λ s k h. absurd (no_second (is_on_link b s e) (nat_lt (o.place s) 0) (never_below (o.place s)) h)) in
          zero (greatest_where (length b.rights) (λ s. is_on_link b s e && nat_lt (o.place s) 0)
          (λ s. slice_index (deliveries_by b want (flow_of c)) s)) most);
      on_takes = λ r l h. free (take_arc b r) (omega (arith, take_arc_below b r l h))
          ∙ sym (ap (λ t. when t (slice_index (deliveries_by b want (flow_of c)) r)) (never_below (o.place r)));
      on_outs = λ n l h. free (out_arc b n) (out_arc_below b n l h);
    };
    settled = λ r l below. absurd (omega arith);
    others = λ r l above. no_sets r l;
  };
  cut_nodes = fits_cuts.nodes;
  cut_rights = fits_cuts.rights;
}
  where
    zero : (x : ℕ) → x ≤ 0 → 0 ≡ x
    zero x h = omega arith

abbrev pub changed : Contents → List ℕ → List ℕ → List ℕ → Contents
changed old f s lower = record old { flow = f; scratch = s; lower = lower }

pub net_kept : (b : Basin) (month : Month) (supply want : List ℕ) (c : Contents) (f s lower : List ℕ) →
    IsMonthNetwork b month supply want (network c) → IsMonthNetwork b month supply want (network (changed c f s lower))
net_kept b month supply want c f s lower net = record {
  ends = assumption (net.ends);
  link_upper = net.link_upper;
  take_upper = net.take_upper;
  supplies = net.supplies;
}

-- a flow over raised lowers is a flow over the old ones
flow_kept : (c : Contents) (f s : List ℕ) (x : Claim) → x.arc < length c.lower →
    IsFlow (network (changed c f s (held_lower c x (slice_index f)))) (λ a. slice_index f a) →
    IsFlow (network c) (λ a. slice_index f a)
flow_kept c f s x inside flow = record {
  low = λ a l. (let low = flow.low a l in elim (cases_eq a x.arc) [
    | inl e ↦ (let p = ap (slice_index (held_lower c x (slice_index f))) e in
        let q = ap (slice_index c.lower) e in
        omega (
          arith,
          get_or-set_same c.lower x.arc (max (slice_index c.lower x.arc)
              (min x.want (slice_index f x.arc))) 0 inside,
        ))
    | inr ne ↦ omega (
      arith,
      get_or-set_other c.lower x.arc a (max (slice_index c.lower x.arc)
          (min x.want (slice_index f x.arc))) 0 ne,
    )
  ]);
  high = flow.high;
  balanced = flow.balanced;
}

-- the lowers hold what the seniors of the next right are delivered
holds_seniors : (b : Basin) (order d : List ℕ) (o : IsSeniorityOrder b.rights order) (r k : ℕ) (w : Network) →
    r < length b.rights → o.place r ≡ k → KeepsForSeniors b d (λ s. nat_lt (o.place s) k) w →
    KeepsForSeniors b d (λ s. is_senior b s r) w
holds_seniors b order d o r k w l at held = record {
  on_links = λ e m. held.on_links e m
      ∙ greatest_same_tests (length b.rights) (λ s. is_on_link b s e && nat_lt (o.place s) k)
      (λ s. is_on_link b s e && is_senior b s r) (λ s. slice_index d s)
      (λ s n. ap (λ t. is_on_link b s e && t) (test s n));
  on_takes = λ s n h. held.on_takes s n h ∙ ap (λ t. when t (slice_index d s)) (test s n);
  on_outs = held.on_outs;
}
  where
    test : (s : ℕ) → s < length b.rights → nat_lt (o.place s) k ≡ is_senior b s r
    test s n = sym (o.senior s r n l ∙ ap (nat_lt (o.place s)) at)

served_next : (b : Basin) (month : Month) (supply want order : List ℕ) (k : ℕ) (x : Claim) (c : Contents)
    (f s : List ℕ) (cuts after : CutSets) → AreKinds b → k < length b.rights → x.right ≡ slice_index order k →
    IsSeniorityOrder b.rights order → IsStanding b month supply want order k c cuts → x.arc ≡ right_arc b x.right →
    x.want ≡ slice_index want x.right →
    IsFlow (network (changed c f s (held_lower c x (slice_index f)))) (λ a. slice_index f a) →
    IsMetOrCut c (slice_index f) x cuts after →
    IsStanding b month supply want order (k + 1) (changed c f s (held_lower c x (slice_index f))) after
served_next b month supply want order k x c f s cuts after kinds l at order_is now arc_is amount_is flow outcome =
    record {
      net = net_kept b month supply want c f s (held_lower c x g) now.net;
      size = length-set c.lower arc lower ∙ now.size;
      swept = λ o. swept_next b month supply want order o k r (min x.want (g arc)) (network c)
          (network (changed c f s (held_lower c x g))) g cuts after kinds l at (before o) is_amount flow raised rest
          (others outcome) (settled o outcome);
      cut_nodes = nodes outcome;
      cut_rights = rights outcome;
    }
  where
    r : ℕ
    r = x.right

    arc : ℕ
    arc = x.arc

    g : ℕ → ℕ
    g a = slice_index f a

    lower : ℕ
    lower = max (slice_index c.lower x.arc) (min x.want (slice_index f x.arc))

    r_in : (o : IsSeniorityOrder b.rights order) → r < length b.rights
    r_in o = subst (λ r. r < length b.rights) (sym at) (o.below k l)

    place_is : (o : IsSeniorityOrder b.rights order) → o.place r ≡ k
    place_is o = ap o.place at ∙ o.placed k l

    inside : arc < length c.lower
    inside = let n = now.size in omega (arith, arc_is, right_arc_in b r (r_in order_is) (kinds r (r_in order_is)))

    before : (o : IsSeniorityOrder b.rights order) → IsSwept b month supply want o.place k (network c) g cuts
    before o = swept_same b month supply want order o k (network c) (flow_of c) g cuts kinds now.net (now.swept o)
        (flow_kept c f s x inside flow)

    is_amount : min x.want (g arc) ≡ delivered_by b want g r
    is_amount = ap (λ y. min y (g arc)) amount_is ∙ ap (λ a. min (slice_index want r) (g a)) arc_is

    raised : slice_index (held_lower c x g) (right_arc b r)
        ≡ max (slice_index c.lower (right_arc b r)) (min x.want (g arc))
    raised = subst (λ a. slice_index (held_lower c x g) a ≡ max (slice_index c.lower a) (min x.want (g arc))) arc_is
        (get_or-set_same c.lower arc lower 0 inside)

    rest : (a : ℕ) → a < arc_count b → a ≢ right_arc b r →
        slice_index (held_lower c x g) a ≡ slice_index c.lower a
    rest a m ne = get_or-set_other c.lower arc a lower 0 (λ e. ne (e ∙ arc_is))

    others : IsMetOrCut c g x cuts after → (q : ℕ) → q < length b.rights → q ≢ r → set_of after q ≡ set_of cuts q
    others (inl met) q m ne = ap (λ (d : CutSets). set_of d q) met.1
    others (inr short) q m ne = ap (λ (d : CutSets). set_of d q) short.1.1.0 ∙ set_of_other cuts r q (Some short.1.0) ne

    nodes : IsMetOrCut c g x cuts after → after.nodes ≡ length b.nodes
    nodes (inl met) = ap (λ (d : CutSets). d.nodes) met.1 ∙ now.cut_nodes
    nodes (inr short) = ap (λ (d : CutSets). d.nodes) short.1.1.0 ∙ now.cut_nodes

    rights : IsMetOrCut c g x cuts after → length after.sets ≡ length b.rights
    rights (inl met) = ap (λ (d : CutSets). length d.sets) met.1 ∙ now.cut_rights
    rights (inr short) = ap (λ (d : CutSets). length d.sets) short.1.1.0
        ∙ (length-set cuts.sets r (Some short.1.0) ∙ now.cut_rights)

    settled : (o : IsSeniorityOrder b.rights order) → IsMetOrCut c g x cuts after →
        IsMetOrReached b month supply want (deliveries_by b want g) after r
    settled o (inl met) = inl (
      let d = got b want g r (r_in o) in let m = met.0 in omega (arith, d, is_amount, amount_is),
      ap (λ (d : CutSets). set_of d r) met.1 ∙ (before o).others r (r_in o) (omega (arith, place_is o)),
    )
    settled o (inr short) =
        let d : slice_index (deliveries_by b want g) r ≡ g arc = got b want g r (r_in o)
        ∙ (let m = short.0 in omega (arith, is_amount)) in
        inr (
          let m = short.0 in omega (arith, d, amount_is),
          (
            short.1.0,
            (
              ap (λ (d : CutSets). set_of d r) short.1.1.0
                  ∙ set_of_with cuts r (Some short.1.0) (let n = now.cut_rights in omega (arith, r_in o)),
              greatest_reach b month supply want (deliveries_by b want g) (network c) g r short.1.0 now.net
                  (holds_seniors b order (deliveries_by b want g) o r k (network c) (r_in o) (place_is o)
                  (before o).held) (r_in o) (kinds r (r_in o)) (ap g (sym arc_is) ∙ sym d)
                  (short.1.1.1.0 ∙ now.net.ends.nodes)
                  (subst (λ a. IsGreatestCut (network c) g a (has short.1.0)) arc_is short.1.1.1.1),
            ),
          ),
        )

pub standing_next : {b : Basin} {month : Month} {supply want order : List ℕ} {k : ℕ} {x : Claim} {c new : Contents}
    {cuts after : CutSets} → AreKinds b → k < length b.rights → x.right ≡ slice_index order k →
    IsSeniorityOrder b.rights order → IsStanding b month supply want order k c cuts → x.arc ≡ right_arc b x.right →
    x.want ≡ slice_index want x.right → IsServed c new x cuts after → IsCirculation new →
    IsStanding b month supply want order (k + 1) new after
standing_next {b} {month} {supply} {want} {order} {k} {x} {c} {new} {cuts} {after} kinds l at order_is now arc_is
    amount_is served kept =
    subst (λ (d : Contents). IsStanding b month supply want order (k + 1) d after) (sym served.held)
    (served_next b month supply want order k x c new.flow new.scratch cuts after kinds l at order_is now arc_is
    amount_is (subst (λ (d : Contents). IsFlow (network d) (flow_of new)) served.held kept.flow) served.outcome)
