-- From the nodes that are reached as seen from one short right to those as seen from a more senior one.
use Rattle.std.proofs.Common.{◌≡◌, ◌≢◌, ℕ, ◌+◌, ◌*◌, ◌<◌, ◌≤◌, Bool, true, false, refl, sym, ◌∙◌, ap, subst, arith}
use Rattle.std.proofs.Common.{List, length, get_or, inl, inr}
use Rattle.std.proofs.lemmas.Bool.{and_from, and_parts, both_ways, cases_Bool, cases_eq, eqb-true}
use Rattle.std.proofs.lemmas.Bool.{false_from_ne_true, lt-ltb, ltb-false, ltb-true, not-true, not_from_false}
use Rattle.std.specs.Prelude.{◌&&◌, not, nat_lt, min, slice_index, Option, Some, None, ◌⊎◌}
use Rattle.finite_sums.proofs.Totals.{greatest_where_le, term_le_greatest}
use Rattle.finite_sums.proofs.Terms.{greatest_is}
use Rattle.water_model.specs.Lookups.{has}
use Rattle.water_model.specs.Basin.{head_of, instream_link, is_at, is_on_link, is_senior}
use Rattle.water_model.specs.Cuts.{kept_on}
use Rattle.water_model.specs.Indices.{seniors_first}
use Rattle.water_model.specs.Plans.{delivery_by_link}
use Rattle.water_model.specs.declared.types.Basin.{Basin}
use Rattle.water_model.specs.declared.types.MonthRecord.{MonthRecord}
use Rattle.water_model.proofs.Seniority.{senior_trans}
use Rattle.rights_roll.specs.SeniorityOrder.{IsSeniorityOrder}
use Rattle.plan_residual.specs.declared.steps.Direction.{Direction}
use Rattle.plan_residual.specs.declared.steps.Direction.TheVariants.{FromSources}
use Rattle.plan_residual.specs.Residual.{HasPlan, start_of, end_of, is_back, link_of, can_fall, has_room}
use Rattle.plan_residual.specs.Rows.{step_count}
use Rattle.plan_residual.specs.Queue.{QueueView, Extends, IsQueue, IsQueueIn}
use Rattle.plan_residual.specs.Search.{asked, AreFollowed, HasJuniors, IsClosedAlong, IsClosedApart, IsFollowed}
use Rattle.plan_residual.specs.Search.{IsReaching}
use Rattle.plan_residual.specs.Sweep.{IsBetween, IsShortRight, IsPassed, ArePassed, right_at}
use Rattle.plan_residual.proofs.Overs.{over, over_backward, link_below}
use Rattle.plan_residual.proofs.Reaching.{within_grows}
use Rattle.plan_residual.proofs.Spreading.{followed_stays}

on_its_link : (b : Basin) (s e : ℕ) → is_on_link b s e ≡ true → instream_link b s ≡ Some e
on_its_link b s e h = of_link (instream_link b s) refl h
  where
    of_link : (o : Option ℕ) → instream_link b s ≡ o → is_at o e ≡ true → instream_link b s ≡ Some e
    of_link None is h = cc
    of_link (Some at) is h = is ∙ ap (λ k. Some k) (eqb-true at e h)

-- a short instream right is delivered all that its link carries
whole_flow : (b : Basin) (m : MonthRecord) (r e : ℕ) → HasPlan b m → IsShortRight b m r → is_on_link b r e ≡ true →
    slice_index m.delivered r ≡ slice_index m.plan.flow e
whole_flow b m r e given short on =
    let got : slice_index m.delivered r ≡ min (slice_index m.want r) (slice_index m.plan.flow e) =
    given.delivered.each r short.in_range
    ∙ ap (λ o. delivery_by_link o (slice_index m.want r) m.plan r) (on_its_link b r e on) in
    omega (arith, got, short.short)

-- a link that can fall beside the seniors of a junior can fall beside those of its short senior
pub falls_more : (b : Basin) (m : MonthRecord) (r q e : ℕ) → HasPlan b m → IsShortRight b m r →
    is_senior b r q ≡ true → can_fall b m q e ≡ true → can_fall b m r e ≡ true
falls_more b m r q e given short senior falls =
    let parts = and_parts (not (is_on_link b q e)) (nat_lt (kept_on b m.delivered q e) (slice_index m.plan.flow e))
    falls in
    let less = ltb-true (kept_on b m.delivered q e) (slice_index m.plan.flow e) parts.1 in
    let most = greatest_where_le (length b.rights) (λ s. is_on_link b s e && is_senior b s r)
    (λ s. slice_index m.delivered s) (kept_on b m.delivered q e)
    (λ s l h. (let both = and_parts (is_on_link b s e) (is_senior b s r) h in
    kept s l both.0 (senior_trans b.rights s r q both.1 senior))) in
    and_from (not (is_on_link b r e)) (nat_lt (kept_on b m.delivered r e) (slice_index m.plan.flow e))
    (not_from_false (is_on_link b r e) (false_from_ne_true (is_on_link b r e) (λ on.
    absurd (omega (arith, whole_flow b m r e given short on, kept r short.in_range on senior, less)))))
    (lt-ltb _ _ (omega arith))
  where
    kept : (s : ℕ) → s < length b.rights → is_on_link b s e ≡ true → is_senior b s q ≡ true →
        slice_index m.delivered s ≤ kept_on b m.delivered q e
    kept s l on above =
        term_le_greatest (length b.rights) (λ t. is_on_link b t e && is_senior b t q)
        (λ t. slice_index m.delivered t) s l (and_from (is_on_link b s e) (is_senior b s q) on above)

-- a step that has room for a junior has room for its short senior
pub room_more : (b : Basin) (m : MonthRecord) (r q s : ℕ) → HasPlan b m → IsShortRight b m r →
    is_senior b r q ≡ true → has_room b m q s ≡ true → has_room b m r s ≡ true
room_more b m r q s given short senior room = elim (cases_Bool (is_back s)) [
  | inl back ↦ (let one = over b m r s (link_of s) true refl back in let other = over b m q s (link_of s) true refl
      back in
      one.room ∙ falls_more b m r q (link_of s) given short senior (sym other.room ∙ room))
  | inr on ↦ (let one = over b m r s (link_of s) false refl on in let other = over b m q s (link_of s) false refl on in
      one.room ∙ (sym other.room ∙ room))
]

-- so a set from which no search goes on, as seen from a short right, is one as seen from its juniors
pub along_for_junior : (b : Basin) (m : MonthRecord) (r q : ℕ) (d : Direction) (set : List Bool) → HasPlan b m →
    IsShortRight b m r → is_senior b r q ≡ true → IsClosedAlong b m r d set → IsClosedAlong b m q d set
along_for_junior b m r q d set given short senior closed = record {
  steps = λ s l from room. closed.steps s l from (room_more b m r q (asked d s) given short senior room);
}

-- and so is a closed set, but for the ends of their links
pub closed_for_junior : (b : Basin) (m : MonthRecord) (r q : ℕ) (set : List Bool) → HasPlan b m →
    IsShortRight b m r → is_senior b r q ≡ true → IsClosedApart b m r set → IsClosedApart b m q set
closed_for_junior b m r q set given short senior closed = record {
  outlets = closed.outlets;
  juniors = λ s l junior takes. closed.juniors s l (senior_trans b.rights r q s senior junior) takes;
  along = along_for_junior b m r q FromSources set given short senior closed.along;
}

-- what hinders a link from falling beside the seniors of a junior alone is the junior itself or a right between the two
record Hinders (b : Basin) (r q e : ℕ) : Type 0 where
  right : ℕ
  in_range : right < length b.rights
  link : is_on_link b right e ≡ true
  junior : is_senior b right r ≡ false
  senior : (right ≡ q) ⊎ (is_senior b right q ≡ true)

hindered : (b : Basin) (m : MonthRecord) (r q e : ℕ) → q < length b.rights → is_senior b q r ≡ false →
    can_fall b m r e ≡ true → can_fall b m q e ≡ false → Hinders b r q e
hindered b m r q e below above falls not_q = elim (cases_Bool (is_on_link b q e)) [
  | inl on ↦ record { right = q; in_range = below; link = on; junior = above; senior = inl refl }
  | inr off ↦ between off
]
  where
    less : kept_on b m.delivered r e < slice_index m.plan.flow e
    less = ltb-true (kept_on b m.delivered r e) (slice_index m.plan.flow e)
        (and_parts (not (is_on_link b r e)) (nat_lt (kept_on b m.delivered r e) (slice_index m.plan.flow e)) falls).1

    between : is_on_link b q e ≡ false → Hinders b r q e
    between off =
        let more : slice_index m.plan.flow e ≤ kept_on b m.delivered q e = ltb-false _ _
        (false_from_ne_true (nat_lt (kept_on b m.delivered q e) (slice_index m.plan.flow e)) (λ h.
        both_ways (can_fall b m q e) not_q
        (and_from (not (is_on_link b q e)) (nat_lt (kept_on b m.delivered q e) (slice_index m.plan.flow e))
        (not_from_false (is_on_link b q e) off) h))) in
        let who = greatest_is (length b.rights) (λ s. is_on_link b s e && is_senior b s q)
        (λ s. slice_index m.delivered s) (let l = less in omega arith) in
        let tests = and_parts (is_on_link b who.0 e) (is_senior b who.0 q) who.2 in
        let same = who.3 in
        record {
          right = who.0;
          in_range = who.1;
          link = tests.0;
          junior = false_from_ne_true (is_senior b who.0 r) (λ h.
              let kept = term_le_greatest (length b.rights) (λ s. is_on_link b s e && is_senior b s r)
              (λ s. slice_index m.delivered s) who.0 who.1
              (and_from (is_on_link b who.0 e) (is_senior b who.0 r) tests.0 h) in
              let l = less in omega arith);
          senior = inr tests.1;
        }

pub senior_at : (b : Basin) (position before : ℕ) → IsSeniorityOrder b.rights (seniors_first b) →
    before < length b.rights → position < before → is_senior b (right_at b position) (right_at b before) ≡ true
senior_at b position before o within less =
    let one = o.placed position (omega arith) in
    let other = o.placed before within in
    o.senior (right_at b position) (right_at b before) (o.below position (omega arith)) (o.below before within)
    ∙ lt-ltb (o.place (right_at b position)) (o.place (right_at b before)) (omega arith)

-- what was seen for the one is in every closed set of the more senior
pub reaching_before : {b : Basin} {m : MonthRecord} {position before : ℕ} {q : QueueView} → HasPlan b m →
    IsSeniorityOrder b.rights (seniors_first b) → IsQueueIn b q → IsBetween b m position before q.seen →
    IsReaching b m (right_at b position) q
reaching_before {b = b} {m = m} {position = position} {before = before} given o queue now = record {
  in_queue = queue.in_queue;
  count = queue.count;
  least = λ other closed n h. now.reached.least other
      (closed_for_junior b m (right_at b position) (right_at b before) other given now.short
      (senior_at b position before o now.within now.less) closed) n h;
}

-- a right between two indices of the order was passed with the others
passed_at : (b : Basin) (m : MonthRecord) (position before : ℕ) (seen seen' : List Bool)
    (o : IsSeniorityOrder b.rights (seniors_first b)) →
    ArePassed b m (right_at b position) seen seen' (position + 1) (before + 1) → (s : ℕ) → s < length b.rights →
    position < o.place s → o.place s ≤ before → IsPassed b m (right_at b position) seen seen' s
passed_at b m position before seen seen' o passed s l above below =
    subst (λ t. IsPassed b m (right_at b position) seen seen' t) (o.each s l)
    (passed (o.place s) (omega arith) (omega arith))

-- once the rights between two indices of the order were passed, all juniors of the one were seen
pub juniors_passed : (b : Basin) (m : MonthRecord) (position before : ℕ) (seen seen' : List Bool) →
    IsSeniorityOrder b.rights (seniors_first b) → IsBetween b m position before seen →
    ((v : ℕ) → has seen v ≡ true → has seen' v ≡ true) →
    ArePassed b m (right_at b position) seen seen' (position + 1) (before + 1) →
    HasJuniors b m (right_at b position) (length b.rights) seen'
juniors_passed b m position before seen seen' o now kept passed =
    λ s l senior takes. elim (cases_Bool (is_senior b (right_at b before) s)) [
      | inl older ↦ within_grows b seen seen' s kept (now.reached.closed.juniors s l older takes)
      | inr new ↦ (let one = o.placed position (let a = now.less in let c = now.within in omega arith) in
          let other = o.placed before now.within in
          let above = ltb-true (o.place (right_at b position)) (o.place s)
          (sym (o.senior (right_at b position) s now.short.in_range l) ∙ senior) in
          let below = ltb-false (o.place (right_at b before)) (o.place s)
          (sym (o.senior (right_at b before) s now.short_before.in_range l) ∙ new) in
          (passed_at b m position before seen seen' o passed s l (omega arith) (omega arith)).taken senior takes)
    ]

-- and the steps from the nodes that were seen before were followed
pub advanced : (b : Basin) (m : MonthRecord) (position before : ℕ) (q1 q2 : QueueView) →
    IsSeniorityOrder b.rights (seniors_first b) → IsQueue q1 → IsBetween b m position before q1.seen →
    Extends q1 q2 → ArePassed b m (right_at b position) q1.seen q2.seen (position + 1) (before + 1) →
    AreFollowed b m (right_at b position) FromSources q2 q1.size
advanced b m position before q1 q2 o queue now more passed =
    λ j s l below at. step s below (ap (has seen) (at ∙ more.prefix j l) ∙ queue.queued j l)
  where
    seen : List Bool
    seen = q1.seen

    seen' : List Bool
    seen' = q2.seen

    r : ℕ
    r = right_at b position

    q : ℕ
    q = right_at b before

    index_of_r : o.place r ≡ position
    index_of_r = o.placed position (let a = now.less in let c = now.within in omega arith)

    index_of_q : o.place q ≡ before
    index_of_q = o.placed before now.within

    older : is_senior b q r ≡ false
    older = o.senior q r now.short_before.in_range now.short.in_range ∙ false_from_ne_true _ (λ h.
        let a = ltb-true (o.place q) (o.place r) h in let c = now.less in
        let pr = index_of_r in let pq = index_of_q in absurd (omega arith))

    -- a step that had no room before is one back over a link of a right that was passed
    opened : (s : ℕ) → s < step_count b → has seen (start_of b s) ≡ true → has_room b m q s ≡ false →
        has_room b m r s ≡ true → has seen' (end_of b s) ≡ true
    opened s below from closed room = elim (cases_Bool (is_back s)) [
      | inr on ↦ (let one = over b m r s (link_of s) false refl on in let other = over b m q s (link_of s) false
          refl on in
          absurd (both_ways (has_room b m q s) closed (other.room ∙ (sym one.room ∙ room))))
      | inl back ↦ (
          let one = over b m r s (link_of s) true refl back in
          let other = over b m q s (link_of s) true refl back in
          let falls : can_fall b m r (link_of s) ≡ true = sym one.room ∙ room in
          let h = hindered b m r q (link_of s) now.short_before.in_range older falls (sym other.room ∙ closed) in
          let two = over_backward b m r (link_of s) in
          let was = passed_at b m position before seen seen' o passed h.right h.in_range
          (above h.right h.in_range h.junior (apart h.right (link_of s) falls h.link))
          (under h.right h.in_range h.senior) in
          ap (has seen') (one.enters ∙ sym two.enters)
          ∙ was.followed (link_of s) (link_below b s below) (on_its_link b h.right (link_of s) h.link)
          (ap (has seen) (sym one.starts) ∙ from) (two.room ∙ falls))
    ]
      where
        -- the right itself is on no link that can fall
        apart : (t e : ℕ) → can_fall b m r e ≡ true → is_on_link b t e ≡ true → t ≢ r
        apart t e falls on same = both_ways (is_on_link b r e)
            (not-true (is_on_link b r e)
            (and_parts (not (is_on_link b r e)) (nat_lt (kept_on b m.delivered r e) (slice_index m.plan.flow e))
            falls).0)
            (ap (λ k. is_on_link b k e) (sym same) ∙ on)

        above : (t : ℕ) → t < length b.rights → is_senior b t r ≡ false → t ≢ r → position < o.place t
        above t l junior other =
            let least = ltb-false (o.place t) (o.place r) (sym (o.senior t r l now.short.in_range) ∙ junior) in
            let pr = index_of_r in
            elim (cases_eq (o.place t) position) [
              | inl same ↦ absurd (other (sym (o.each t l) ∙ ap (right_at b) same))
              | inr strict ↦ omega arith
            ]

        under : (t : ℕ) → t < length b.rights → (t ≡ q) ⊎ (is_senior b t q ≡ true) → o.place t ≤ before
        under t l how = elim how [
          | inl same ↦ (let pq = index_of_q in let e : o.place t ≡ o.place q = ap o.place same in omega arith)
          | inr senior ↦ (let pq = index_of_q in
              let less = ltb-true (o.place t) (o.place q)
              (sym (o.senior t q l now.short_before.in_range) ∙ senior) in
              omega arith)
        ]

    step : (s : ℕ) → s < step_count b → has seen (start_of b s) ≡ true → IsFollowed b m r FromSources seen' s
    step s below from = λ room. elim (cases_Bool (has_room b m q s)) [
      | inl old ↦ more.kept (end_of b s) (now.reached.closed.along.steps s below from old)
      | inr closed ↦ opened s below from closed room
    ]

-- one more right is passed
pub passed_more : (b : Basin) (m : MonthRecord) (r : ℕ) (seen one two : List Bool) (from position s : ℕ) →
    ((v : ℕ) → has seen v ≡ true → has one v ≡ true) → ((v : ℕ) → has one v ≡ true → has two v ≡ true) →
    ArePassed b m r seen one from position → get_or (seniors_first b) position 0 ≡ s → IsPassed b m r one two s →
    ArePassed b m r seen two from (position + 1)
passed_more b m r seen one two from position s before after now at this = λ i a c. elim (cases_eq i position) [
  | inl same ↦ subst (λ t. IsPassed b m r seen two t) (sym (ap (λ k. get_or (seniors_first b) k 0) same ∙ at)) record {
    taken = this.taken;
    followed = λ e l is h. this.followed e l is (before (head_of b e) h);
  }
  | inr other ↦ (let p = now i a (omega arith) in record {
    taken = λ senior takes. within_grows b one two (get_or (seniors_first b) i 0) after (p.taken senior takes);
    followed = λ e l is h. followed_stays b m r FromSources (2 * e + 1) one two after (p.followed e l is h);
  })
]
