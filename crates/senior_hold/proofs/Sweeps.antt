-- What a raise and a hold keep of the rights that were served.
use Rattle.std.proofs.Common.{◌≡◌, ◌≢◌, ℕ, zero, suc, ◌+◌, ◌<◌, ◌≤◌, Bool, true, false, refl, sym, ◌∙◌, ap, subst}
use Rattle.std.proofs.Common.{arith, List, length, inl, inr}
use Rattle.std.proofs.lemmas.Bool.{cases_lt, cases_eq}
use Rattle.std.proofs.lemmas.Bool.Decides.{nat_tests}
use Rattle.std.specs.Prelude.{◌==◌, slice_index, ◌&&◌, max, is_some, nat_lt, ◌⊎◌}
use Rattle.finite_sums.specs.Sums.{greatest_where, when}
use Rattle.finite_sums.proofs.Totals.{term_le_greatest, greatest_same_tests, greatest_one_more}
use Rattle.water_model.specs.Basin.{is_outlet, is_on_link, is_at, is_senior}
use Rattle.water_model.specs.Cuts.{IsReach}
use Rattle.water_model.specs.CutSets.{CutSets, set_of}
use Rattle.water_text.specs.declared.month.Month.{Month}
use Rattle.water_model.specs.declared.types.Basin.{Basin}
use Rattle.duality.proofs.Duality.{cut_slack}
use Rattle.duality.proofs.Stays.{tight_stays, greatest_same_terms}
use Rattle.circulation.specs.Network.{Network, IsFlow}
use Rattle.senior_hold.specs.MonthNetwork.{takes, take_arc, out_arc, right_arc, arc_by_link, arc_count, IsMonthNetwork}
use Rattle.senior_hold.specs.MonthNetwork.{plan_of}
use Rattle.senior_hold.proofs.MonthArcs.{IsKind, on_link, at_node, AreKinds, take_arc_below, out_arc_below}
use Rattle.senior_hold.proofs.MonthArcs.{take_arc_apart}
use Rattle.senior_hold.proofs.Plans.{list_get, plan_is, delivery_is, right_arc_in}
use Rattle.water_model.specs.Plans.{delivery, carry_of}
use Rattle.rights_roll.specs.SeniorityOrder.{IsSeniorityOrder}
use Rattle.senior_hold.specs.Solved.{IsMetOrReached}
use Rattle.senior_hold.proofs.Swept.{delivered_by, deliveries_by, IsSwept}

pub got : (b : Basin) (want : List ℕ) (g : ℕ → ℕ) (r : ℕ) → r < length b.rights →
    slice_index (deliveries_by b want g) r ≡ delivered_by b want g r
got b want g r l = list_get (length b.rights) (delivered_by b want g) r l

same_test : (v : ℕ) → v == v ≡ true
same_test v = grind (arith, nat_tests)

is_below : (m n : ℕ) → m < n → nat_lt m n ≡ true
is_below m n l = grind (arith, nat_tests)

below_is : (m n : ℕ) → nat_lt m n ≡ true → m < n
below_is m n h = grind (arith, nat_tests)

two : (p q : Bool) → p ≡ true → q ≡ true → p && q ≡ true
two p q h i = grind (arith, nat_tests)

both : (p q : Bool) → p && q ≡ true → (p ≡ true) × (q ≡ true)
both p q h = grind (arith, nat_tests)

-- what a right that is served was delivered is held on its arc
lower_holds : (b : Basin) (month : Month) (supply want : List ℕ) (place : ℕ → ℕ) (k : ℕ) (w : Network) (g : ℕ → ℕ)
    (cuts : CutSets) → IsSwept b month supply want place k w g cuts → (r : ℕ) → r < length b.rights → place r < k →
    IsKind b r → delivered_by b want g r ≤ w.lower (right_arc b r)
lower_holds b month supply want place k w g cuts swept r l served (on_link e m i t) =
    let same : w.lower (right_arc b r) ≡ w.lower e = ap (λ o. w.lower (arc_by_link b r o)) i in
    let on : is_on_link b r e ≡ true = ap (λ o. is_at o e) i ∙ same_test e in
    let term = term_le_greatest (length b.rights) (λ s. is_on_link b s e && nat_lt (place s) k)
    (λ s. slice_index (deliveries_by b want g) s) r l
    (two (is_on_link b r e) (nat_lt (place r) k) on (is_below (place r) k served)) in
    omega (arith, swept.held.on_links e m, term, got b want g r l)
lower_holds b month supply want place k w g cuts swept r l served (at_node v m i t) =
    let same : w.lower (right_arc b r) ≡ w.lower (take_arc b r) = ap (λ o. w.lower (arc_by_link b r o)) i in
    let here : when (nat_lt (place r) k) (slice_index (deliveries_by b want g) r)
    ≡ slice_index (deliveries_by b want g) r
    = ap (λ t. when t (slice_index (deliveries_by b want g) r)) (is_below (place r) k served) in
    omega (arith, swept.held.on_takes r l (ap is_some t), here, got b want g r l)

-- in every flow within the bounds, the rights that were served are delivered the same
kept_below : (b : Basin) (month : Month) (supply want order : List ℕ) (o : IsSeniorityOrder b.rights order) (k : ℕ)
    (w : Network) (g h : ℕ → ℕ) (cuts : CutSets) → AreKinds b → IsMonthNetwork b month supply want w →
    IsSwept b month supply want o.place k w g cuts → IsFlow w h → (i : ℕ) → i ≤ k → (r : ℕ) → r < length b.rights →
    o.place r < i → delivered_by b want h r ≡ delivered_by b want g r
kept_below b month supply want order o k w g h cuts kinds net swept flow zero le r l below = absurd (omega arith)
kept_below b month supply want order o k w g h cuts kinds net swept flow (suc i) le r l below =
    elim (cases_lt (o.place r) i) [
      | inl before ↦ kept_below b month supply want order o k w g h cuts kinds net swept flow i (omega arith) r l before
      | inr last ↦ here (kept_below b month supply want order o k w g h cuts kinds net swept flow i (omega arith))
          (omega arith)
    ]
  where
    kind : (s : ℕ) → s < length b.rights → IsKind b s
    kind = kinds

    least : delivered_by b want g r ≤ delivered_by b want h r
    least = let held = lower_holds b month supply want o.place k w g cuts swept r l (omega arith) (kind r l) in
        let low = flow.low (right_arc b r) (let n = net.ends.arcs in omega (arith, right_arc_in b r l (kind r l))) in
        omega arith

    most : ((s : ℕ) → s < length b.rights → o.place s < i → delivered_by b want h s ≡ delivered_by b want g s) →
        i ≤ o.place r → IsMetOrReached b month supply want (deliveries_by b want g) cuts r →
        delivered_by b want h r ≤ delivered_by b want g r
    most same at (inl met) = let m = met.0 in omega (arith, got b want g r l)
    most same at (inr short) =
        let tight = short.1.1.1.is_tight in
        let equal = tight.tight in
        omega (
          arith,
          got b want g r l,
          delivery_is b month supply want w h r net flow l (kind r l),
          cut_slack b (carry_of b month) supply (deliveries_by b want g) r short.1.0 supply want (plan_of b h) l
              tight.is_cut
              (plan_is b month supply want w h net flow) (λ n m e. refl) keeps,
        )
      where
        keeps : (s : ℕ) → s < length b.rights → is_senior b s r ≡ true →
            slice_index (deliveries_by b want g) s ≤ delivery b want (plan_of b h) s
        keeps s m senior =
            let before : o.place s < o.place r = below_is (o.place s) (o.place r) (sym (o.senior s r m l) ∙ senior) in
            omega (
              arith,
              got b want g s m,
              same s m (omega arith),
              delivery_is b month supply want w h s net flow m (kind s m),
            )

    here : ((s : ℕ) → s < length b.rights → o.place s < i → delivered_by b want h s ≡ delivered_by b want g s) →
        i ≤ o.place r → delivered_by b want h r ≡ delivered_by b want g r
    here same at = omega (arith, least, most same at (swept.settled r l (omega arith)))

-- a reach stays the reach while its right and that right's seniors are delivered the same
reach_stays : (b : Basin) (month : Month) (supply d d' : List ℕ) (r : ℕ) (cut : List Bool) → r < length b.rights →
    slice_index d r ≡ slice_index d' r →
    ((s : ℕ) → s < length b.rights → is_senior b s r ≡ true → slice_index d s ≡ slice_index d' s) →
    IsReach b month supply d r cut → IsReach b month supply d' r cut
reach_stays b month supply d d' r cut l own seniors reach = record {
  is_tight = tight_stays b month supply d d' r cut l own seniors reach.is_tight;
  contains = λ other tight n h.
      reach.contains other (tight_stays b month supply d' d r other l (sym own) (λ s m e. sym (seniors s m e)) tight) n
      h;
}

pub settled_stays : (b : Basin) (month : Month) (supply want d d' : List ℕ) (cuts new : CutSets) (r : ℕ) →
    r < length b.rights → slice_index d r ≡ slice_index d' r →
    ((s : ℕ) → s < length b.rights → is_senior b s r ≡ true → slice_index d s ≡ slice_index d' s) →
    set_of new r ≡ set_of cuts r → IsMetOrReached b month supply want d cuts r → IsMetOrReached b month supply want d'
    new r
settled_stays b month supply want d d' cuts new r l own seniors sets (inl met) =
    inl (omega (arith, met.0), sets ∙ met.1)
settled_stays b month supply want d d' cuts new r l own seniors sets (inr short) =
    inr (
      omega (arith, short.0),
      (short.1.0, (sets ∙ short.1.1.0, reach_stays b month supply d d' r short.1.0 l own seniors short.1.1.1)),
    )

-- any other flow within the bounds serves as well
pub swept_same : (b : Basin) (month : Month) (supply want order : List ℕ) (o : IsSeniorityOrder b.rights order) (k : ℕ)
    (w : Network) (g h : ℕ → ℕ) (cuts : CutSets) → AreKinds b → IsMonthNetwork b month supply want w →
    IsSwept b month supply want o.place k w g cuts → IsFlow w h → IsSwept b month supply want o.place k w h cuts
swept_same b month supply want order o k w g h cuts kinds net swept flow = record {
  flow = flow;
  held = record {
    on_links = λ e l. swept.held.on_links e l
        ∙ greatest_same_terms (length b.rights) (λ s. is_on_link b s e && nat_lt (o.place s) k)
        (λ s. slice_index (deliveries_by b want g) s) (λ s. slice_index (deliveries_by b want h) s)
        (λ s m t. same s m (below_is (o.place s) k (both (is_on_link b s e) (nat_lt (o.place s) k) t).1));
    on_takes = λ r l t. swept.held.on_takes r l t
        ∙ when_same (nat_lt (o.place r) k) (slice_index (deliveries_by b want g) r)
        (slice_index (deliveries_by b want h) r) (λ s. same r l (below_is (o.place r) k s));
    on_outs = swept.held.on_outs;
  };
  settled = λ r l below. settled_stays b month supply want (deliveries_by b want g) (deliveries_by b want h) cuts cuts r
      l (same r l below) (λ s m senior.
      same s m (let before : o.place s < o.place r = below_is (o.place s) (o.place r) (sym (o.senior s r m l)
      ∙ senior) in omega arith)) refl (swept.settled r l below);
  others = swept.others;
}
  where
    same : (r : ℕ) → r < length b.rights → o.place r < k →
        slice_index (deliveries_by b want g) r ≡ slice_index (deliveries_by b want h) r
    same r l below = omega (
      arith,
      got b want g r l,
      got b want h r l,
      kept_below b month supply want order o k w g h cuts kinds net swept flow k (omega arith) r l below,
    )

    when_same : (t : Bool) (x y : ℕ) → (t ≡ true → x ≡ y) → when t x ≡ when t y
    when_same true x y e = e refl
    when_same false x y e = refl

-- the next right is held and settled
pub swept_next : (b : Basin) (month : Month) (supply want order : List ℕ) (o : IsSeniorityOrder b.rights order)
    (k r amount : ℕ) (w w' : Network) (g : ℕ → ℕ) (cuts new : CutSets) → AreKinds b → k < length b.rights →
    r ≡ slice_index order k → IsSwept b month supply want o.place k w g cuts → amount ≡ delivered_by b want g r →
    IsFlow w' g → w'.lower (right_arc b r) ≡ max (w.lower (right_arc b r)) amount →
    ((a : ℕ) → a < arc_count b → a ≢ right_arc b r → w'.lower a ≡ w.lower a) →
    ((s : ℕ) → s < length b.rights → s ≢ r → set_of new s ≡ set_of cuts s) →
    IsMetOrReached b month supply want (deliveries_by b want g) new r → IsSwept b month supply want o.place (k + 1) w' g
    new
swept_next b month supply want order o k r amount w w' g cuts new kinds l at swept is flow raised rest sets settled =
    record {
      flow = flow;
      held = record {
        on_links = on_links (kinds r r_in);
        on_takes = on_takes (kinds r r_in);
        on_outs = on_outs (kinds r r_in);
      };
      settled = λ s m below. elim (cases_eq s r) [
        | inl e ↦ subst (IsMetOrReached b month supply want d new) (sym e) settled
        | inr ne ↦ settled_stays b month supply want d d cuts new s m refl (λ t n i. refl) (sets s m ne)
            (swept.settled s m (earlier s m ne below))
      ];
      others = λ s m above. sets s m (λ e. let p = ap o.place e in absurd (omega (arith, r_place)))
          ∙ swept.others s m (omega arith);
    }
  where
    d : List ℕ
    d = deliveries_by b want g

    r_in : r < length b.rights
    r_in = subst (λ r. r < length b.rights) (sym at) (o.below k l)

    r_place : o.place r ≡ k
    r_place = ap o.place at ∙ o.placed k l

    earlier : (s : ℕ) → s < length b.rights → s ≢ r → o.place s < k + 1 → o.place s < k
    earlier s m ne below = elim (cases_lt (o.place s) k) [
      | inl before ↦ before
      | inr after ↦ absurd (ne (let same : o.place s ≡ k = omega arith in sym (o.each s m)
          ∙ (ap (slice_index order) same ∙ sym at)))
    ]

    -- the tests of those served, with r and without
    more : (x y n : ℕ) (p : Bool) → p && nat_lt x n ≡ true → p && nat_lt x (n + 1) ≡ true
    more x y n p h = grind (arith, nat_tests)

    only : (e s : ℕ) → s < length b.rights → is_on_link b s e && nat_lt (o.place s) (k + 1) ≡ true →
        (is_on_link b s e && nat_lt (o.place s) k ≡ true) ⊎ (s ≡ r)
    only e s m h = elim (cases_eq s r) [
      | inl same ↦ inr same
      | inr ne ↦ inl (let parts = both (is_on_link b s e) (nat_lt (o.place s) (k + 1)) h in
          two (is_on_link b s e) (nat_lt (o.place s) k) parts.0
          (is_below (o.place s) k (earlier s m ne (below_is (o.place s) (k + 1) parts.1))))
    ]

    without : (p q t : Bool) → (q ≡ true → t ≡ true) → (p ≡ true → t ≡ true → q ≡ true) → p && t ≡ p && q
    without p q t h i = grind (arith, nat_tests)

    -- of a right other than r the test is the same
    served_same : (s : ℕ) → s < length b.rights → s ≢ r → nat_lt (o.place s) (k + 1) ≡ nat_lt (o.place s) k
    served_same s m ne = ends (nat_lt (o.place s) k) (nat_lt (o.place s) (k + 1))
        (λ h. is_below (o.place s) (k + 1) (let i = below_is (o.place s) k h in omega arith))
        (λ h. is_below (o.place s) k (earlier s m ne (below_is (o.place s) (k + 1) h)))
      where
        ends : (q t : Bool) → (q ≡ true → t ≡ true) → (t ≡ true → q ≡ true) → t ≡ q
        ends q t h i = grind (arith, nat_tests)

    off_link : (e : ℕ) → is_on_link b r e ≡ false → (s : ℕ) → s < length b.rights →
        is_on_link b s e && nat_lt (o.place s) k ≡ is_on_link b s e && nat_lt (o.place s) (k + 1)
    off_link e off s m = elim (cases_eq s r) [
      | inl same ↦ (let none : is_on_link b s e ≡ false = ap (λ s. is_on_link b s e) same ∙ off in
          never (is_on_link b s e) (nat_lt (o.place s) k) (nat_lt (o.place s) (k + 1)) none)
      | inr ne ↦ ap (λ t. is_on_link b s e && t) (sym (served_same s m ne))
    ]
      where
        never : (p q t : Bool) → p ≡ false → p && q ≡ p && t
        never p q t h = grind (arith, nat_tests)

    link_as_before : (e : ℕ) → e < length b.links → is_on_link b r e ≡ false → e ≢ right_arc b r →
        w'.lower e ≡ greatest_where (length b.rights) (λ s. is_on_link b s e && nat_lt (o.place s) (k + 1))
        (λ s. slice_index d s)
    link_as_before e m off ne = rest e (omega arith) ne ∙ (swept.held.on_links e m
        ∙ greatest_same_tests (length b.rights) (λ s. is_on_link b s e && nat_lt (o.place s) k)
        (λ s. is_on_link b s e && nat_lt (o.place s) (k + 1)) (λ s. slice_index d s) (off_link e off))

    on_links : IsKind b r → (e : ℕ) → e < length b.links →
        w'.lower e ≡ greatest_where (length b.rights) (λ s. is_on_link b s e && nat_lt (o.place s) (k + 1))
        (λ s. slice_index d s)
    on_links (on_link f n i t) e m = elim (cases_eq e f) [
      | inl same ↦ subst (λ e. w'.lower e
          ≡ greatest_where (length b.rights) (λ s. is_on_link b s e && nat_lt (o.place s) (k + 1))
          (λ s. slice_index d s)) (sym same) own
      | inr ne ↦ link_as_before e m (ap (λ o. is_at o e) i ∙ apart f e (λ h. ne (sym h)))
          (λ h. ne (h ∙ ap (arc_by_link b r) i))
    ]
      where
        apart : (x y : ℕ) → x ≢ y → x == y ≡ false
        apart x y ne = grind (arith, nat_tests)

        own : w'.lower f ≡ greatest_where (length b.rights) (λ s. is_on_link b s f && nat_lt (o.place s) (k + 1))
            (λ s. slice_index d s)
        own = let arc : right_arc b r ≡ f = ap (arc_by_link b r) i in
            let new_lower : w'.lower f ≡ max (w.lower f) amount =
            subst (λ a. w'.lower a ≡ max (w.lower a) amount) arc raised in
            let old = swept.held.on_links f n in
            let sum = greatest_one_more (length b.rights) (λ s. is_on_link b s f && nat_lt (o.place s) k)
            (λ s. is_on_link b s f && nat_lt (o.place s) (k + 1))
            (λ s. slice_index d s) r r_in
            (two (is_on_link b r f) (nat_lt (o.place r) (k + 1)) (ap (λ o. is_at o f) i
            ∙ same_test f) (is_below (o.place r) (k + 1) (omega (arith, r_place))))
            (λ s m h. more (o.place s) 0 k (is_on_link b s f) h) (only f) in
            omega (arith, new_lower, old, sum, got b want g r r_in, is)
    on_links (at_node v n i t) e m =
        link_as_before e m (ap (λ o. is_at o e) i) (λ h. let same = ap (arc_by_link b r) i in absurd (omega arith))

    take_as_before : (s : ℕ) → s < length b.rights → takes b s ≡ true → s ≢ r → take_arc b s ≢ right_arc b r →
        w'.lower (take_arc b s) ≡ when (nat_lt (o.place s) (k + 1)) (slice_index d s)
    take_as_before s m h ne apart = rest (take_arc b s) (omega (arith, take_arc_below b s m h)) apart
        ∙ (swept.held.on_takes s m h
        ∙ ap (λ t. when t (slice_index d s)) (sym (served_same s m ne)))

    on_takes : IsKind b r → (s : ℕ) → s < length b.rights → takes b s ≡ true →
        w'.lower (take_arc b s) ≡ when (nat_lt (o.place s) (k + 1)) (slice_index d s)
    on_takes (on_link f n i t) s m h = take_as_before s m h
        (λ e. let none : takes b s ≡ false = ap (takes b) e ∙ ap is_some t in cc)
        (λ e. let same = ap (arc_by_link b r) i in absurd (omega arith))
    on_takes (at_node v n i t) s m h = elim (cases_eq s r) [
      | inl same ↦ subst (λ s. w'.lower (take_arc b s) ≡ when (nat_lt (o.place s) (k + 1)) (slice_index d s)) (sym same)
          own
      | inr ne ↦ take_as_before s m h ne (λ e. ne (take_arc_apart b s r h (ap is_some t) (e ∙ ap (arc_by_link b r) i)))
    ]
      where
        own : w'.lower (take_arc b r) ≡ when (nat_lt (o.place r) (k + 1)) (slice_index d r)
        own = let arc : right_arc b r ≡ take_arc b r = ap (arc_by_link b r) i in
            let new_lower : w'.lower (take_arc b r) ≡ max (w.lower (take_arc b r)) amount =
            subst (λ a. w'.lower a ≡ max (w.lower a) amount) arc raised in
            let old = swept.held.on_takes r r_in (ap is_some t) in
            let before : when (nat_lt (o.place r) k) (slice_index d r) ≡ 0 =
            ap (λ t. when t (slice_index d r)) (not_below (o.place r) k (omega (arith, r_place))) in
            let after : when (nat_lt (o.place r) (k + 1)) (slice_index d r) ≡ slice_index d r =
            ap (λ t. when t (slice_index d r)) (is_below (o.place r) (k + 1) (omega (arith, r_place))) in
            omega (arith, new_lower, old, before, after, got b want g r r_in, is)
          where
            not_below : (m n : ℕ) → n ≤ m → nat_lt m n ≡ false
            not_below m n l = grind (arith, nat_tests)

    on_outs : IsKind b r → (n : ℕ) → n < length b.nodes → is_outlet b n ≡ true → w'.lower (out_arc b n) ≡ 0
    on_outs (on_link f q i t) n m h =
        rest (out_arc b n) (out_arc_below b n m h) (λ e. let same = ap (arc_by_link b r) i in absurd (omega arith))
        ∙ swept.held.on_outs n m h
    on_outs (at_node v q i t) n m h = rest (out_arc b n) (out_arc_below b n m h)
        (λ e. let same = ap (arc_by_link b r) i in absurd (omega (arith, take_arc_below b r r_in (ap is_some t))))
        ∙ swept.held.on_outs n m h
