-- Outside the reach each node is reached from a source: an outlet with outflow, a junior that takes, or the end of the
-- right's own link.
use Rattle.std.proofs.Common.{◌≡◌, ℕ, zero, suc, ◌<◌, Bool, true, false, refl, sym, ◌∙◌, ap, arith, subst}
use Rattle.std.proofs.Common.{List, [], ◌∷◌, length, inl, inr}
use Rattle.std.proofs.lemmas.Bool.{and_from, and_parts, both_ways, cases_Bool, false_from_ne_true, lt-ltb, ltb-true}
use Rattle.std.proofs.lemmas.Bool.{not-true, not_from_false, or_cases, or_left, or_right, or_from}
use Rattle.std.specs.Prelude.{◌&&◌, ◌||◌, nat_lt, slice_index, ◌⊎◌, Option, Some, None}
use Rattle.water_model.specs.Lookups.{has}
use Rattle.water_model.specs.Basin.{head_of, tail_of, instream_link, taking_node, is_senior}
use Rattle.water_model.specs.Cuts.{node_within, takes_within, separates, IsCut, IsTight, IsReach}
use Rattle.water_model.specs.History.{IsShort}
use Rattle.water_model.specs.declared.types.Basin.{Basin}
use Rattle.water_model.specs.declared.types.MonthRecord.{MonthRecord}
use Rattle.water_model.proofs.Sets.{has_below}
use Rattle.plan_residual.specs.Residual.{HasPlan, IsClosed}
use Rattle.plan_residual.specs.Slack.{others}
use Rattle.plan_residual.proofs.Terms.{length-others}
use Rattle.plan_residual.proofs.Closed.{in_others, not_in_set, tight_cuts_hold_none_reached}
use Rattle.plan_residual.proofs.Closed.{closed_sets_leave_tight_cuts}
use Rattle.plan_residual.specs.Core.{IsClosedBackward}
use Rattle.next_unit.proofs.Leads.{own_is, own_none}
use Rattle.next_unit.proofs.Least.{no_source_closed, tight_closed, others_twice}
use Rattle.plan_residual.proofs.Upstream.{find_below}

-- the nodes of two sets
either : List Bool → List Bool → List Bool
either [] ys = []
either (x ∷ xs) [] = x ∷ xs
either (x ∷ xs) (y ∷ ys) = (x || y) ∷ either xs ys

length-either : (xs ys : List Bool) → length (either xs ys) ≡ length xs
unfolding either
length-either [] ys = refl
length-either (x ∷ xs) [] = refl
length-either (x ∷ xs) (y ∷ ys) = ap suc (length-either xs ys)

has_either : (xs ys : List Bool) (n : ℕ) → length xs ≡ length ys → has (either xs ys) n ≡ (has xs n || has ys n)
unfolding either
has_either [] [] n len = refl
has_either [] (y ∷ ys) n len = absurd (omega (arith, len))
has_either (x ∷ xs) [] n len = absurd (omega (arith, len))
has_either (x ∷ xs) (y ∷ ys) zero len = refl
has_either (x ∷ xs) (y ∷ ys) (suc n) len = has_either xs ys n (omega (arith, len))

-- two sets that are closed backward are so together
both_closed : (b : Basin) (m : MonthRecord) (r : ℕ) (xs ys : List Bool) → length xs ≡ length ys →
    IsClosedBackward b m r xs → IsClosedBackward b m r ys → IsClosedBackward b m r (either xs ys)
both_closed b m r xs ys len one other = record {
  forward = λ e l room h. step (tail_of b e) (head_of b e) (one.forward e l room) (other.forward e l room) h;
  backward = λ e l room h. step (head_of b e) (tail_of b e) (one.backward e l room) (other.backward e l room) h;
}
  where
    step : (from to : ℕ) → (has xs to ≡ true → has xs from ≡ true) → (has ys to ≡ true → has ys from ≡ true) →
        has (either xs ys) to ≡ true → has (either xs ys) from ≡ true
    step from to f g h = has_either xs ys from len
        ∙ by_parts (has xs from) (has ys from) (has xs to) (has ys to) f g (sym (has_either xs ys to len) ∙ h)
      where
        by_parts : (p q s t : Bool) → (s ≡ true → p ≡ true) → (t ≡ true → q ≡ true) → (s || t) ≡ true → (p || q) ≡ true
        by_parts p q s t f g h = elim (or_cases _ _ h) [
          | inl i ↦ or_left _ _ (f i)
          | inr i ↦ or_right _ _ (g i)
        ]

-- a source in a set
pub record OutletIn (m : MonthRecord) (set : List Bool) (nodes : ℕ) : Type 0 where
  pub node : ℕ
  pub below : node < nodes
  pub some : 0 < slice_index m.plan.out node
  pub inside : has set node ≡ true

pub record JuniorIn (b : Basin) (m : MonthRecord) (r : ℕ) (set : List Bool) : Type 0 where
  pub right : ℕ
  pub below : right < length b.rights
  pub junior : is_senior b r right ≡ true
  pub some : 0 < slice_index m.plan.take right
  pub inside : takes_within b set right ≡ true

pub record OwnIn (b : Basin) (r : ℕ) (set : List Bool) : Type 0 where
  pub link : ℕ
  pub is : instream_link b r ≡ Some link
  pub inside : has set (head_of b link) ≡ true

-- a set that is closed backward and goes beyond the reach has a source
pub source_in : (b : Basin) (m : MonthRecord) (r node : ℕ) (reach set : List Bool) → HasPlan b m →
    r < length b.rights → IsShort m r → IsReach b m.month m.supply m.delivered r reach → length set ≡ length b.nodes →
    IsClosedBackward b m r set → has set node ≡ true → has reach node ≡ false →
    OwnIn b r set ⊎ (OutletIn m set (length b.nodes) ⊎ JuniorIn b m r set)
source_in b m r node reach set given l short is_reach len back here beyond =
    elim (own_in (instream_link b r) refl) [
      | inl own ↦ inl own
      | inr no_own ↦ elim (find_below (length b.nodes) (λ n. nat_lt 0 (slice_index m.plan.out n) && has set n)) [
        | inr some ↦ (let parts = and_parts _ _ some.2 in
            inr (inl record {
              node = some.0;
              below = some.1;
              some = ltb-true _ _ parts.0;
              inside = parts.1;
            }))
        | inl no_outlet ↦ elim (find_below (length b.rights) (λ s. is_senior b r s
            && (nat_lt 0 (slice_index m.plan.take s) && takes_within b set s))) [
              | inr some ↦ (let parts = and_parts _ _ some.2 in
                  let inner = and_parts _ _
                  parts.1 in
                  inr (inr record {
                    right = some.0;
                    below = some.1;
                    junior = parts.0;
                    some = ltb-true _ _ inner.0;
                    inside = inner.1;
                  }))
              | inl no_junior ↦ absurd (both_ways _ beyond
                  (is_reach.contains both (tight no_own no_outlet no_junior) node
                  (has_either reach set node same_len ∙ or_right _ _ here)))
            ]
      ]
    ]
  where
    reach_len : length reach ≡ length b.nodes
    reach_len = is_reach.is_tight.is_cut.one_each

    same_len : length reach ≡ length set
    same_len = reach_len ∙ sym len

    both : List Bool
    both = either reach set

    both_len : length both ≡ length b.nodes
    both_len = length-either reach set ∙ reach_len

    closed : IsClosed b m r (others reach)
    closed = tight_cuts_hold_none_reached b m r reach given l short is_reach.is_tight

    own_in : (o : Option ℕ) → instream_link b r ≡ o →
        OwnIn b r set ⊎ ((e : ℕ) → instream_link b r ≡ Some e → has set (head_of b e) ≡ false)
    own_in None is = inr (λ e h. own_none b r e is h)
    own_in (Some link) is = elim (cases_Bool (has set (head_of b link))) [
      | inl h ↦ inl record { link = link; is = is; inside = h }
      | inr h ↦ inr (λ e i. subst (λ k. has set (head_of b k) ≡ false) (own_is b r link e is i) h)
    ]

    -- what is outside the reach and not in the set is in neither
    neither : (n : ℕ) → has (others reach) n ≡ true → has set n ≡ false → has both n ≡ false
    neither n h i = has_either reach set n same_len ∙ or_from _ _ (not_in_set reach n h) i

    no_both : (x y : Bool) → x ≡ true → x && y ≡ false → y ≡ false
    no_both x y h i = false_from_ne_true _ (λ j. both_ways _ i (and_from _ _ h j))

    -- a junior takes outside both
    junior_out : (o : Option ℕ) → node_within o (others reach) ≡ true → node_within o set ≡ false →
        node_within o (others both) ≡ true
    junior_out None h i = h
    junior_out (Some n) h i = in_others both n
        (omega (arith, has_below (others reach) n h, length-others reach, reach_len, both_len)) (neither n h i)

    tight : ((e : ℕ) → instream_link b r ≡ Some e → has set (head_of b e) ≡ false) →
        ((n : ℕ) → n < length b.nodes → nat_lt 0 (slice_index m.plan.out n) && has set n ≡ false) →
        ((s : ℕ) → s < length b.rights → is_senior b r s
        && (nat_lt 0 (slice_index m.plan.take s) && takes_within b set s) ≡ false) →
        IsTight b m.month m.supply m.delivered r both
    tight no_own no_outlet no_junior =
        subst (λ s. IsTight b m.month m.supply m.delivered r s) (others_twice both)
        (closed_sets_leave_tight_cuts b m r (others both) given l short (no_source_closed b m r both given both_len
        (both_closed b m r reach set same_len (tight_closed b m r reach given l short is_reach.is_tight) back)
        (λ n k some h. both_ways _ (neither n (closed.outlets n k some)
        (no_both (nat_lt 0 (slice_index m.plan.out n)) (has set n) (lt-ltb _ _ some) (no_outlet n k))) h)
        (λ s k senior takes. junior_out (taking_node b s) (closed.juniors s k senior takes)
        (no_both (nat_lt 0 (slice_index m.plan.take s)) (takes_within b set s) (lt-ltb _ _ takes)
        (no_both (is_senior b r s) (nat_lt 0 (slice_index m.plan.take s) && takes_within b set s) senior
        (no_junior s k)))) (λ e k is h. both_ways _ (neither (head_of b e) (closed.own e k is) (no_own e is)) h))
        (subst (λ s. IsCut b r s) (sym (others_twice both)) (cut no_own)))
      where
        wider : (n : ℕ) → has reach n ≡ true → has both n ≡ true
        wider n h = has_either reach set n same_len ∙ or_left _ _ h

        cut : ((e : ℕ) → instream_link b r ≡ Some e → has set (head_of b e) ≡ false) → IsCut b r both
        cut no_own = record {
          one_each = both_len;
          separates = of_link (instream_link b r) (taking_node b r) refl is_reach.is_tight.is_cut.separates;
        }
          where
            of_link : (o t : Option ℕ) → instream_link b r ≡ o → separates b t o reach ≡ true → separates b t o both ≡
                true
            of_link None None is h = h
            of_link None (Some n) is h = wider n h
            of_link (Some link) t is h =
                let parts = and_parts _ _ h in
                let ends = and_parts _ _ parts.1 in
                and_from _ _ parts.0 (and_from _ _ (wider (tail_of b link) ends.0)
                (not_from_false _ (has_either reach set (head_of b link) same_len ∙ or_from _ _
                (not-true _ ends.1) (no_own link is))))
