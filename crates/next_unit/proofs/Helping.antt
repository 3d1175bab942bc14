-- The most senior right that one more unit of carry on a link would help, seniors first.
use Rattle.std.proofs.Common.{◌≡◌, ℕ, ◌+◌, ◌<◌, ◌≤◌, true, false, sym, ◌∙◌, ap, subst, arith, Bool, List, [], refl}
use Rattle.std.proofs.Common.{length, inl, inr}
use Rattle.std.proofs.lemmas.Bool.{cases_lt, ltb-true}
use Rattle.std.proofs.lemmas.List.{length-set}
use Rattle.std.specs.Prelude.{Option, Some, None, slice_index, slice_index_or, slice_set, unwrap_or, is_some, ◌⊎◌}
use Rattle.water_model.specs.Basin.{instream_link}
use Rattle.water_model.specs.Cuts.{IsReach}
use Rattle.water_model.specs.History.{HasReaches, IsShort}
use Rattle.water_model.specs.Indices.{seniors_first}
use Rattle.water_model.specs.declared.types.Basin.{Basin}
use Rattle.water_model.specs.declared.types.MonthRecord.{MonthRecord}
use Rattle.duality.proofs.Greatest.{delivery_le_want}
use Rattle.rights_roll.specs.SeniorityOrder.{IsSeniorityOrder}
use Rattle.plan_residual.proofs.Firsts.{set_held}
use Rattle.plan_residual.specs.Core.{IsCore}
use Rattle.plan_residual.specs.Reaches.{HasReach}
use Rattle.plan_residual.specs.Sweep.{right_at}
use Rattle.next_unit.specs.Core.{raised_carry}
use Rattle.next_unit.specs.Helped.{IsFirstHelped, IsHelped, AreHelped, HelpsNoneTo, IsHelpedTo, AreHelpedTo, IsListed}
use Rattle.next_unit.specs.Helped.{AreBeingHelped, AreUndecided, HelpNot, IsCandidate, TakesOneMore}
use Rattle.next_unit.specs.Laws.{CarryHelpsRight}
use Rattle.next_unit.proofs.Pushes.{set_each}

-- a right that could get more is short
pub helped_is_short : (b : Basin) (m : MonthRecord) (link r : ℕ) → r < length b.rights → CarryHelpsRight b m link r →
    IsShort m r
helped_is_short b m link r l helps =
    omega (
      arith,
      helps.more,
      delivery_le_want b (raised_carry b m.month link) m.supply m.want helps.plan r l helps.is_plan,
    )

-- one more index, whose right would not be helped
pub not_helped : (b : Basin) (m : MonthRecord) (position link : ℕ) →
    (CarryHelpsRight b m link (right_at b position) → ⊥) → HelpsNoneTo b m position link →
    HelpsNoneTo b m (position + 1) link
not_helped b m position link here now = record {
  before = λ i l. elim (cases_lt i position) [
    | inl below ↦ now.before i below
    | inr above ↦
        (let same : i ≡ position = omega arith in
        subst (λ (k : ℕ). CarryHelpsRight b m link (right_at b k) → ⊥) (sym same) here)
  ];
  instream = now.instream;
}

-- where no right was noted, none before would be helped
pub none_before : {b : Basin} {m : MonthRecord} {position link : ℕ} (before : Option ℕ) → is_some before ≡ false →
    IsHelpedTo b m position link before → HelpsNoneTo b m position link
none_before None h now = now
none_before (Some r) h now = cc

-- a right that was noted stays so
pub one_before : (b : Basin) (m : MonthRecord) (position link : ℕ) (before : Option ℕ) → is_some before ≡ true →
    IsHelpedTo b m position link before → IsHelpedTo b m (position + 1) link before
one_before b m position link None h now = cc
one_before b m position link (Some r) h now = now

-- a right was noted, or the one at the index would not be helped
pub still_helped : (b : Basin) (m : MonthRecord) (position link : ℕ) (before : Option ℕ) →
    (HelpsNoneTo b m position link → CarryHelpsRight b m link (right_at b position) → ⊥) →
    IsHelpedTo b m position link before → IsHelpedTo b m (position + 1) link before
still_helped b m position link None here now = not_helped b m position link (here now) now
still_helped b m position link (Some r) here now = now

-- the right at the index is the first that would be helped
pub now_helped : (b : Basin) (m : MonthRecord) (position link right : ℕ) →
    IsSeniorityOrder b.rights (seniors_first b) → position < length b.rights → right_at b position ≡ right →
    CarryHelpsRight b m link right → HelpsNoneTo b m position link → IsFirstHelped b m link right
now_helped b m position link right o within at helps now = record {
  in_range = in_range;
  helps = helps;
  first = λ s l senior other.
      let above : o.place s < o.place right =
      ltb-true _ _ (sym (o.senior s right l in_range) ∙ senior) in
      let here : o.place right ≡ position = ap o.place (sym at) ∙ o.placed position within in
      now.before (o.place s) (omega arith) (subst (λ (q : ℕ). CarryHelpsRight b m link q) (sym (o.each s l)) other);
}
  where
    in_range : right < length b.rights
    in_range = subst (λ (q : ℕ). q < length b.rights) at (o.below position within)

-- what is so of one more index is so without it
earlier : (b : Basin) (m : MonthRecord) (position link : ℕ) (answer : Option ℕ) →
    IsHelpedTo b m (position + 1) link answer → IsHelpedTo b m position link answer
earlier b m position link None now = record { before = λ i l. now.before i (omega arith); instream = now.instream }
earlier b m position link (Some r) now = now

-- what is decided is so at each index
decided_to : (b : Basin) (m : MonthRecord) (position link : ℕ) (answer : Option ℕ) →
    ((i : ℕ) → i < position → right_at b i < length b.rights) → IsHelped b m link answer →
    IsHelpedTo b m position link answer
decided_to b m position link None below none = record {
  before = λ i l. none (right_at b i) (below i l);
  instream = λ s l on. none s l;
}
decided_to b m position link (Some r) below now = now

-- all undecided links were gone over for a right
pub all_gone_over : {b : Basin} {m : MonthRecord} {position : ℕ} {helped : List (Option ℕ)} {undecided : List ℕ}
    {count done : ℕ} → IsSeniorityOrder b.rights (seniors_first b) → position < length b.rights → count ≤ done →
    AreUndecided b m helped undecided count → AreBeingHelped b m position helped undecided done →
    AreHelpedTo b m (position + 1) helped
all_gone_over {b = b} {m = m} {position = position} {helped = helped} o l all lists now = record {
  count = now.each.count;
  each = λ e k. elim (lists.each e k) [
    | inl decided ↦ decided_to b m (position + 1) e (slice_index_or helped e None)
        (λ i below. o.below i (omega arith)) decided
    | inr at ↦ subst (λ (f : ℕ). IsHelpedTo b m (position + 1) f (slice_index_or helped f None)) at.2
        (now.gone_over at.0 (let below = at.1 in omega arith))
  ];
}

-- before the first of them
pub none_gone_over : {b : Basin} {m : MonthRecord} {position : ℕ} {helped : List (Option ℕ)} {undecided : List ℕ} →
    AreHelpedTo b m position helped → AreBeingHelped b m position helped undecided 0
none_gone_over now = record { each = now; gone_over = λ j l. absurd (omega arith) }

-- one of them more
module _ {b : Basin} {m : MonthRecord} {helped : List (Option ℕ)} {undecided : List ℕ} {count j : ℕ}
    (answer : Option ℕ) (listed : j < count) (lists : AreUndecided b m helped undecided count)
    (counted : length helped ≡ length b.links) where
  abbrev link : ℕ
  link = slice_index undecided j

  below : link < length helped
  below = let l = lists.links.1 j listed in omega (arith, l, counted)

  pub still_undecided : AreUndecided b m (slice_set helped link answer) undecided count
  still_undecided = record {
    links = lists.links;
    each = set_each (λ e o. e < length b.links → IsHelped b m e o ⊎ IsListed undecided count e) helped link answer None
        below (λ k. inr (j, listed, refl)) (λ e other. lists.each e);
  }

  pub one_gone_over : {position : ℕ} → AreBeingHelped b m position helped undecided j →
      IsHelpedTo b m (position + 1) link answer →
      AreBeingHelped b m position (slice_set helped link answer) undecided (j + 1)
  one_gone_over {position = position} now here = record {
    each = record {
      count = length-set helped link answer ∙ now.each.count;
      each = set_each (λ e o. e < length b.links → IsHelpedTo b m position e o) helped link answer None below
          (λ k. earlier b m position link answer here) (λ e other. now.each.each e);
    };
    gone_over = λ i k. set_each (λ e o. slice_index undecided i ≡ e → IsHelpedTo b m (position + 1) e o) helped link
        answer None below (λ same. here)
        (λ e other same. subst (λ f. IsHelpedTo b m (position + 1) f (slice_index_or helped f None)) same
        (now.gone_over i (before i k (λ at. other (sym same ∙ at))))) (slice_index undecided i) refl;
  }
    where
      before : (i : ℕ) → i < j + 1 → (slice_index undecided i ≡ link → ⊥) → i < j
      before i k other = elim (cases_lt i j) [
        | inl below ↦ below
        | inr above ↦ absurd (other (ap (slice_index undecided) (let same : i ≡ j = omega arith in same)))
      ]

-- a right that none of them would help is helped by no link
pub no_more : {b : Basin} {m : MonthRecord} {position : ℕ} {helped : List (Option ℕ)} {undecided : List ℕ}
    {count : ℕ} → IsSeniorityOrder b.rights (seniors_first b) → position < length b.rights →
    HelpNot b m undecided count (right_at b position) → AreUndecided b m helped undecided count →
    AreHelpedTo b m position helped → AreHelpedTo b m (position + 1) helped
no_more {b = b} {m = m} {position = position} {helped = helped} o l none lists now = record {
  count = now.count;
  each = λ e k. elim (lists.each e k) [
    | inl decided ↦ decided_to b m (position + 1) e (slice_index_or helped e None)
        (λ i below. o.below i (omega arith)) decided
    | inr at ↦ still_helped b m position e (slice_index_or helped e None) (λ so_far helps. none at.0 at.1
        (subst (λ (f : ℕ). CarryHelpsRight b m f (right_at b position)) (sym at.2) helps)) (now.each e k)
  ];
}

-- a diversion or zone is helped by no link for which no right was known at first
pub none_instream : {b : Basin} {m : MonthRecord} {position : ℕ} {helped : List (Option ℕ)} →
    instream_link b (right_at b position) ≡ None → right_at b position < length b.rights →
    AreHelpedTo b m position helped → AreHelpedTo b m (position + 1) helped
none_instream {b = b} {m = m} {position = position} {helped = helped} none l now = record {
  count = now.count;
  each = λ e k. still_helped b m position e (slice_index_or helped e None)
      (λ so_far. so_far.instream (right_at b position) l none) (now.each e k);
}

-- all rights were gone over
pub all_helped : {b : Basin} {m : MonthRecord} {indices : ℕ} {helped : List (Option ℕ)} →
    IsSeniorityOrder b.rights (seniors_first b) → length b.rights ≤ indices → AreHelpedTo b m indices helped →
    AreHelped b m helped
all_helped {b = b} {m = m} {indices = indices} {helped = helped} o all now = record {
  count = now.count;
  each = λ e l. of_answer e (slice_index_or helped e None) (now.each e l);
}
  where
    of_answer : (e : ℕ) (answer : Option ℕ) → IsHelpedTo b m indices e answer → IsHelped b m e answer
    of_answer e None none = λ s l helps. none.before (o.place s) (let k = o.in_range s l in omega arith)
        (subst (λ (r : ℕ). CarryHelpsRight b m e r) (sym (o.each s l)) helps)
    of_answer e (Some r) now = now

-- the set of a short right is its reach
pub short_has_reach : (b : Basin) (m : MonthRecord) (r : ℕ) → HasReaches b m → r < length b.rights → IsShort m r →
    HasReach b m r
short_has_reach b m r reaches l short =
    let set = reaches.short r l short in
    subst (λ (cut : List Bool). IsReach b m.month m.supply m.delivered r cut)
    (sym (ap (λ o. unwrap_or o []) set.1)) set.2

-- what a search for its core finds of such a right
pub candidate : {b : Basin} {m : MonthRecord} {r : ℕ} {core : List Bool} → TakesOneMore b m → r < length b.rights →
    IsShort m r → IsCore b m r core → IsCandidate b m r core
candidate {b = b} {m = m} {r = r} month l short core = record {
  short = short;
  room = month.room.each r l short;
  is_core = core;
  cut = set_held b m r month.plan.fits record {
    each = λ s k h. let set = month.reaches.short s k h in (set.0, set.1, set.2.is_tight);
  } l short;
  reach = short_has_reach b m r month.reaches l short;
}
