-- What is known of a link by whose the next unit at its head would be, before any search for a core.
use Rattle.std.proofs.Common.{◌≡◌, ℕ, zero, suc, ◌<◌, Bool, true, false, refl, sym, ◌∙◌, ap, arith, List, [], ◌∷◌}
use Rattle.std.proofs.Common.{◌+◌, ◌≤◌, length, inl, inr}
use Rattle.std.proofs.lemmas.Bool.{and_parts, and_from, both_ways, cases_eq, false_from_ne_true}
use Rattle.std.proofs.lemmas.List.{get_or-set_same, get_or-set_other, length-set}
use Rattle.std.specs.Prelude.{◌&&◌, ◌⊎◌, ◌↔◌, ◌≢◌, Option, Some, None, is_some, slice_index_or, slice_set}
use Rattle.cut_cert.specs.Sets.{cut_at}
use Rattle.water_model.specs.Lookups.{has}
use Rattle.water_model.specs.Basin.{head_of, tail_of, taking_node, instream_link, is_senior}
use Rattle.water_model.specs.Cuts.{IsCut, IsReach, separates, node_within}
use Rattle.water_model.specs.declared.types.Basin.{Basin}
use Rattle.water_model.specs.declared.types.MonthRecord.{MonthRecord}
use Rattle.water_model.proofs.Seniority.{senior_total}
use Rattle.water_model.proofs.Sets.{has_below}
use Rattle.plan_residual.specs.FirstCores.{HasCoreAt, IsFirstCoreAt, IsFirstCoreOrNone, AreFirstCores}
use Rattle.plan_residual.specs.Residual.{HasPlan, IsClosed, can_rise}
use Rattle.plan_residual.specs.Slack.{others}
use Rattle.plan_residual.specs.Sweep.{IsShortRight}
use Rattle.plan_residual.proofs.Along.{apart_from_closed, closed_from_apart}
use Rattle.plan_residual.proofs.Closed.{in_others, not_in_set, tight_cuts_hold_none_reached}
use Rattle.plan_residual.proofs.Closed.{closed_sets_leave_tight_cuts}
use Rattle.plan_residual.proofs.Sweeping.{closed_for_junior}
use Rattle.plan_residual.proofs.Terms.{length-others}
use Rattle.next_unit.specs.Helped.{AreHelpedTo, AreDecided, AreUndecided, HelpsNoneTo, IsFirstHelped, IsListed}
use Rattle.next_unit.specs.Helped.{IsHelped, IsHelpedTo, TakesOneMore}
use Rattle.next_unit.specs.Laws.{CarryHelpsRight}
use Rattle.next_unit.specs.Next.{IsNextAt, IsFreeAt, IsNextOrFree, AreNext}
use Rattle.next_unit.proofs.Exact.{rights_have_cores, carry_helps_exactly_into_core}
use Rattle.next_unit.proofs.Helping.{helped_is_short, short_has_reach}
use Rattle.next_unit.proofs.Least.{core_within}
use Rattle.next_unit.proofs.Next.{shown_by_core}
use Rattle.next_unit.proofs.Pushes.{set_each}

-- the nodes that two sets have in common
abbrev common : List Bool → List Bool → List Bool
common [] ys = []
common (x ∷ xs) [] = []
common (x ∷ xs) (y ∷ ys) = (x && y) ∷ common xs ys

in_common : (xs ys : List Bool) (n : ℕ) → length xs ≡ length ys → has (common xs ys) n ≡ has xs n && has ys n
in_common [] ys n e = refl
in_common (x ∷ xs) [] n e = absurd (omega arith)
in_common (x ∷ xs) (y ∷ ys) zero e = refl
in_common (x ∷ xs) (y ∷ ys) (suc n) e = in_common xs ys n (omega arith)

length-common : (xs ys : List Bool) → length xs ≡ length ys → length (common xs ys) ≡ length xs
length-common [] ys e = refl
length-common (x ∷ xs) [] e = absurd (omega arith)
length-common (x ∷ xs) (y ∷ ys) e = ap suc (length-common xs ys (omega arith))

-- what two closed sets have in common is closed
closed_common : (b : Basin) (m : MonthRecord) (r : ℕ) (xs ys : List Bool) → length xs ≡ length ys →
    IsClosed b m r xs → IsClosed b m r ys → IsClosed b m r (common xs ys)
closed_common b m r xs ys len one other = record {
  outlets = λ n l out. in_both n (one.outlets n l out) (other.outlets n l out);
  juniors = λ s l senior takes.
      of_node (taking_node b s) (one.juniors s l senior takes) (other.juniors s l senior takes);
  own = λ e l is. in_both (head_of b e) (one.own e l is) (other.own e l is);
  forward = λ e l rises from. (let each = of_both (tail_of b e) from in
      in_both (head_of b e) (one.forward e l rises each.0) (other.forward e l rises each.1));
  backward = λ e l falls from. (let each = of_both (head_of b e) from in
      in_both (tail_of b e) (one.backward e l falls each.0) (other.backward e l falls each.1));
}
  where
    in_both : (n : ℕ) → has xs n ≡ true → has ys n ≡ true → has (common xs ys) n ≡ true
    in_both n h i = in_common xs ys n len ∙ and_from _ _ h i

    of_both : (n : ℕ) → has (common xs ys) n ≡ true → (has xs n ≡ true) × (has ys n ≡ true)
    of_both n h = and_parts _ _ (sym (in_common xs ys n len) ∙ h)

    of_node : (o : Option ℕ) → node_within o xs ≡ true → node_within o ys ≡ true → node_within o (common xs ys) ≡ true
    of_node None h i = h
    of_node (Some n) h i = in_both n h i

-- the reach of a short right lies within that of each short diversion or zone that is junior to it
pub reach_within : (b : Basin) (m : MonthRecord) (r s : ℕ) (one other : List Bool) → HasPlan b m →
    IsShortRight b m r → IsShortRight b m s → is_senior b r s ≡ true → instream_link b s ≡ None →
    IsReach b m.month m.supply m.delivered r one → IsReach b m.month m.supply m.delivered s other →
    (n : ℕ) → has one n ≡ true → has other n ≡ true
reach_within b m r s one other given short short' senior none first second n h =
    second.contains (others set)
    (closed_sets_leave_tight_cuts b m s set given short'.in_range short'.short closed cut) n
    (left one n (has_below one n h) first.is_tight.is_cut.one_each
    (λ i. both_ways _ (not_in_set one n (parts n i).0) h))
  where
    set : List Bool
    set = common (others one) (others other)

    len : length (others one) ≡ length (others other)
    len = omega (
      arith,
      length-others one,
      length-others other,
      first.is_tight.is_cut.one_each,
      second.is_tight.is_cut.one_each,
    )

    sized : length set ≡ length b.nodes
    sized = omega (
      arith,
      length-common (others one) (others other) len,
      length-others one,
      first.is_tight.is_cut.one_each,
    )

    parts : (k : ℕ) → has set k ≡ true → (has (others one) k ≡ true) × (has (others other) k ≡ true)
    parts k i = and_parts _ _ (sym (in_common (others one) (others other) k len) ∙ i)

    left : (c : List Bool) (k : ℕ) → k < length c → length c ≡ length b.nodes → (has set k ≡ true → ⊥) →
        has (others set) k ≡ true
    left c k l e out = in_others set k (omega (arith, l, e, sized)) (false_from_ne_true _ out)

    no_link : (e : ℕ) → None ≡ Some e → ⊥
    no_link e i = cc

    closed : IsClosed b m s set
    closed = closed_common b m s (others one) (others other) len (closed_from_apart b m s (others one)
        (closed_for_junior b m r s (others one) given short senior (apart_from_closed b m r (others one)
        (tight_cuts_hold_none_reached b m r one given short.in_range short.short first.is_tight)))
        (λ e l on. absurd (no_link e (sym none ∙ on))))
        (tight_cuts_hold_none_reached b m s other given short'.in_range short'.short second.is_tight)

    of_node : (o : Option ℕ) → node_within o other ≡ true → node_within o (others set) ≡ true
    of_node None i = i
    of_node (Some k) i = left other k (has_below other k i) second.is_tight.is_cut.one_each
        (λ j. both_ways _ (not_in_set other k (parts k j).1) i)

    by_link : (o : Option ℕ) → o ≡ None → separates b (taking_node b s) o other ≡ true →
        separates b (taking_node b s) o (others set) ≡ true
    by_link None e i = of_node (taking_node b s) i
    by_link (Some link) e i = absurd (no_link link (sym e))

    cut : IsCut b s (others set)
    cut = record {
      one_each = length-others set ∙ sized;
      separates = by_link (instream_link b s) none second.is_tight.is_cut.separates;
    }

-- whose a unit is the first core shows
pub shown_at : {b : Basin} {m : MonthRecord} → TakesOneMore b m → (node : ℕ) (o : Option ℕ) →
    IsNextOrFree b m node o ↔ IsFirstCoreOrNone b m node o
shown_at {b = b} {m = m} month node o = shown_by_core b m node month.plan
    (λ s l short. (cut_at m.cuts s, (short_has_reach b m s month.reaches l short).is_tight)) month.room o

pub are_next : {b : Basin} {m : MonthRecord} {next : List (Option ℕ)} → TakesOneMore b m → AreFirstCores b m next →
    AreNext b m next
are_next {next = next} month are = record {
  one_each = are.one_each;
  each = λ n l. (shown_at month n (slice_index_or next n None)).1 (are.each n l);
}

-- carry that helps a right leads from outside its reach into its core
record LeadsTo (b : Basin) (m : MonthRecord) (link s : ℕ) : Type 0 where
  outside : has (cut_at m.cuts s) (tail_of b link) ≡ false
  has_core : HasCoreAt b m (head_of b link) s

-- a link of a month whose sets are the reaches
module _ {b : Basin} {m : MonthRecord} {link : ℕ} (month : TakesOneMore b m) (below : link < length b.links) where
  leads : (s : ℕ) → s < length b.rights → CarryHelpsRight b m link s → LeadsTo b m link s
  leads s l helps =
      let short = helped_is_short b m link s l helps in
      let core = rights_have_cores b m s month.plan l in
      let both = (carry_helps_exactly_into_core b m s core.0 (cut_at m.cuts s) link month.plan l short
      (short_has_reach b m s month.reaches l short) (month.room.each s l short) core.1 below).0 helps in
      record {
        outside = both.0;
        has_core = record { in_range = l; short = short; core = core.0; is_core = core.1; here = both.1 };
      }

  -- nobody is helped by one that is not full
  pub not_full : can_rise b m link ≡ true → IsHelped b m link None
  not_full rises s l helps =
      let to = leads s l helps in
      let in_core = to.has_core in
      both_ways _ to.outside (core_within b m s in_core.core (cut_at m.cuts s) month.plan l in_core.short
      (short_has_reach b m s month.reaches l in_core.short).is_tight in_core.is_core (tail_of b link)
      (in_core.is_core.upstream.closed.forward link below rises in_core.here))

  -- nor where a unit at its head would help nobody
  pub free_link : IsFreeAt b m (head_of b link) → IsHelped b m link None
  free_link free s l helps = (shown_at month (head_of b link) None).0 free s (leads s l helps).has_core

  -- and so no right at the first indices is
  pub free_head : IsFreeAt b m (head_of b link) → HelpsNoneTo b m 0 link
  free_head free = record {
    before = λ i l. absurd (omega arith);
    instream = λ s l on helps. free_link free s l helps;
  }

  -- where the reach of the right whose unit it would be does not hold its tail, that right is helped
  pub outside_reach : (r : ℕ) → IsNextAt b m (head_of b link) r → has (cut_at m.cuts r) (tail_of b link) ≡ false →
      IsFirstHelped b m link r
  outside_reach r next outside =
      let first : IsFirstCoreAt b m (head_of b link) r = (shown_at month (head_of b link) (Some r)).0 next in
      let own = first.has_core in
      record {
        in_range = own.in_range;
        helps = (carry_helps_exactly_into_core b m r own.core (cut_at m.cuts r) link month.plan own.in_range own.short
            (short_has_reach b m r month.reaches own.in_range own.short) (month.room.each r own.in_range own.short)
            own.is_core below).1 (outside, own.here);
        first = λ s l senior helps. first.first s senior (leads s l helps).has_core;
      }

  -- where it does, no diversion or zone is helped
  pub within_reach : (r : ℕ) → IsNextAt b m (head_of b link) r → has (cut_at m.cuts r) (tail_of b link) ≡ true →
      HelpsNoneTo b m 0 link
  within_reach r next within = record {
    before = λ i l. absurd (omega arith);
    instream = λ s l on helps. by_order s l on (leads s l helps) (cases_eq s r);
  }
    where
      first : IsFirstCoreAt b m (head_of b link) r
      first = (shown_at month (head_of b link) (Some r)).0 next

      own : HasCoreAt b m (head_of b link) r
      own = first.has_core

      by_order : (s : ℕ) → s < length b.rights → instream_link b s ≡ None → LeadsTo b m link s → (s ≡ r) ⊎ (s ≢ r) → ⊥
      by_order s l on to (inl same) =
          both_ways _ to.outside (ap (λ q. has (cut_at m.cuts q) (tail_of b link)) same ∙ within)
      by_order s l on to (inr differ) = elim (senior_total b.rights month.plan.valid.roll.strict s r l own.in_range
          differ) [
            | inl above ↦ first.first s above to.has_core
            | inr senior ↦
                both_ways _ to.outside (reach_within b m r s (cut_at m.cuts r) (cut_at m.cuts s) month.plan
                (record { in_range = own.in_range; short = own.short })
                (record { in_range = l; short = to.has_core.short }) senior on
                (short_has_reach b m r month.reaches own.in_range own.short)
                (short_has_reach b m s month.reaches l to.has_core.short) (tail_of b link) within)
          ]

-- a right that is known decides it
pub decided_some : (b : Basin) (m : MonthRecord) (link : ℕ) (answer : Option ℕ) → is_some answer ≡ true →
    IsHelpedTo b m 0 link answer → IsHelped b m link answer
decided_some b m link None h now = cc
decided_some b m link (Some r) h now = now

-- and that there is none
pub decided_none : (b : Basin) (m : MonthRecord) (link : ℕ) (answer : Option ℕ) → is_some answer ≡ false →
    IsHelped b m link None → IsHelped b m link answer
decided_none b m link None h none = none
decided_none b m link (Some r) h none = cc

-- before the first link
pub none_decided_yet : {b : Basin} {m : MonthRecord} {helped : List (Option ℕ)} {undecided : List ℕ} →
    length helped ≡ length b.links → length undecided ≡ length b.links → AreDecided b m helped undecided 0 0
none_decided_yet one other = record {
  for_helped = one;
  for_list = other;
  bounded = omega arith;
  listed = λ j l. absurd (omega arith);
  each = λ e l. absurd (omega arith);
  decided = λ e l. absurd (omega arith);
}

-- one more link
module _ {b : Basin} {m : MonthRecord} {helped : List (Option ℕ)} {undecided : List ℕ} {count link : ℕ}
    (answer : Option ℕ) (l : link < length b.links) (now : AreDecided b m helped undecided count link) where
  below : link < length helped
  below = omega (arith, now.for_helped, l)

  at_first : IsHelpedTo b m 0 link answer → (e : ℕ) → e < link + 1 →
      IsHelpedTo b m 0 e (slice_index_or (slice_set helped link answer) e None)
  at_first here = set_each (λ e o. e < link + 1 → IsHelpedTo b m 0 e o) helped link answer None below (λ k. here)
      (λ e other k. now.each e (omega arith))

  -- which is decided
  pub one_decided : IsHelpedTo b m 0 link answer → IsHelped b m link answer →
      AreDecided b m (slice_set helped link answer) undecided count (link + 1)
  one_decided here is = record {
    for_helped = length-set helped link answer ∙ now.for_helped;
    for_list = now.for_list;
    bounded = let bounded = now.bounded in omega arith;
    listed = now.listed;
    each = at_first here;
    decided = set_each (λ e o. e < link + 1 → IsHelped b m e o ⊎ IsListed undecided count e) helped link answer None
        below (λ k. inl is) (λ e other k. now.decided e (omega arith));
  }

  -- which is listed
  pub one_listed : IsHelpedTo b m 0 link answer →
      AreDecided b m (slice_set helped link answer) (slice_set undecided count link) (count + 1) (link + 1)
  one_listed here = record {
    for_helped = length-set helped link answer ∙ now.for_helped;
    for_list = length-set undecided count link ∙ now.for_list;
    bounded = let bounded = now.bounded in omega arith;
    listed = set_each (λ j f. j < count + 1 → f < length b.links) undecided count link 0 room (λ k. l)
        (λ j other k. now.listed j (omega arith));
    each = at_first here;
    decided = set_each
        (λ e o. e < link + 1 → IsHelped b m e o ⊎ IsListed (slice_set undecided count link) (count + 1) e) helped link
        answer None below (λ k. inr (count, omega arith, get_or-set_same undecided count link 0 room))
        (λ e other k. elim (now.decided e (omega arith)) [
          | inl is ↦ inl is
          | inr is ↦ inr (
            is.0,
            (let k = is.1 in omega arith),
            get_or-set_other undecided count is.0 link 0 (let k = is.1 in λ same. absurd (omega arith)) ∙ is.2,
          )
        ]);
  }
    where
      room : count < length undecided
      room = omega (arith, now.bounded, now.for_list, l)

-- all links are decided
pub all_helped_to : {b : Basin} {m : MonthRecord} {helped : List (Option ℕ)} {undecided : List ℕ} {count links : ℕ} →
    length b.links ≤ links → AreDecided b m helped undecided count links → AreHelpedTo b m 0 helped
all_helped_to all now = record {
  count = now.for_helped;
  each = λ e l. now.each e (omega arith);
}

-- or are listed as undecided
pub all_decided_of : {b : Basin} {m : MonthRecord} {helped : List (Option ℕ)} {undecided : List ℕ} {count links : ℕ} →
    length b.links ≤ links → links ≤ length b.links → AreDecided b m helped undecided count links →
    AreUndecided b m helped undecided count
all_decided_of all most now = record {
  links = (omega (arith, now.bounded, now.for_list), now.listed);
  each = λ e l. now.decided e (omega arith);
}
