-- One more right claims the nodes of its core.
use Rattle.std.proofs.Common.{◌≡◌, ◌≢◌, ℕ, zero, suc, ◌+◌, ◌<◌, ◌≤◌, Bool, true, false, refl, sym, ◌∙◌, ap, subst}
use Rattle.std.proofs.Common.{arith, List, [], ◌∷◌, length, replicate, inl, inr}
use Rattle.std.proofs.lemmas.Bool.{both_ways, cases_Bool, cases_eq, cases_lt, ltb-true}
use Rattle.std.proofs.lemmas.List.{get_or-set_same, get_or-set_other, length-replicate, length-set}
use Rattle.std.specs.Prelude.{◌||◌, ◌⊎◌, slice_index, slice_index_or, slice_set, Option, Some, None}
use Rattle.water_model.specs.Lookups.{has}
use Rattle.water_model.specs.History.{IsShort}
use Rattle.water_model.specs.Indices.{seniors_first}
use Rattle.water_model.specs.declared.types.Basin.{Basin}
use Rattle.water_model.specs.declared.types.MonthRecord.{MonthRecord}
use Rattle.water_model.proofs.Sets.{has_below}
use Rattle.rights_roll.specs.SeniorityOrder.{IsSeniorityOrder}
use Rattle.plan_residual.specs.declared.steps.Direction.TheVariants.{ToRight}
use Rattle.plan_residual.specs.Residual.{HasPlan}
use Rattle.plan_residual.specs.Core.{node_of, IsCore}
use Rattle.plan_residual.specs.Queue.{QueueView, IsEmpty, IsVisit}
use Rattle.plan_residual.specs.Search.{HasGrown, IsClosedAlong}
use Rattle.plan_residual.specs.Sweep.{IsShortRight, right_at}
use Rattle.plan_residual.specs.FirstCores.{HasCoreAt, IsFirstCoreAt, IsFirstCoreOrNone, AreFirstCores}
use Rattle.plan_residual.specs.Claims.{AreClaimed, AreMarked, IsClaim}
use Rattle.plan_residual.proofs.Along.{along_from_backward, backward_from_along}
use Rattle.plan_residual.proofs.Cores.{core_of}
use Rattle.plan_residual.proofs.Queues.{extends_then, seen_none}
use Rattle.plan_residual.proofs.Sweeping.{along_for_junior, senior_at}

-- the nodes of two sets
together : List Bool → List Bool → List Bool
together [] other = other
together (x ∷ set) [] = x ∷ set
together (x ∷ set) (y ∷ other) = (x || y) ∷ together set other

in_first : (set other : List Bool) (n : ℕ) → has set n ≡ true → has (together set other) n ≡ true
unfolding together
in_first [] other n h = absurd (both_ways false refl h)
in_first (x ∷ set) [] n h = h
in_first (x ∷ set) (y ∷ other) zero h = ap (λ t. t || y) h
in_first (x ∷ set) (y ∷ other) (suc n) h = in_first set other n h

in_second : (set other : List Bool) (n : ℕ) → has other n ≡ true → has (together set other) n ≡ true
unfolding together
in_second [] other n h = h
in_second (x ∷ set) [] n h = absurd (both_ways false refl h)
in_second (x ∷ set) (y ∷ other) zero h = or_second x y h
  where
    or_second : (x y : Bool) → y ≡ true → x || y ≡ true
    or_second true y h = refl
    or_second false y h = h
in_second (x ∷ set) (y ∷ other) (suc n) h = in_second set other n h

in_either : (set other : List Bool) (n : ℕ) → has (together set other) n ≡ true →
    (has set n ≡ true) ⊎ (has other n ≡ true)
unfolding together
in_either [] other n h = inr h
in_either (x ∷ set) [] n h = inl h
in_either (x ∷ set) (y ∷ other) zero h = or_either x y h
  where
    or_either : (x y : Bool) → x || y ≡ true → (x ≡ true) ⊎ (y ≡ true)
    or_either true y h = inl refl
    or_either false y h = inr h
in_either (x ∷ set) (y ∷ other) (suc n) h = in_either set other n h

-- no search goes on from two sets, if none goes on from either
along_together : (b : Basin) (m : MonthRecord) (r : ℕ) (set other : List Bool) → IsClosedAlong b m r ToRight set →
    IsClosedAlong b m r ToRight other → IsClosedAlong b m r ToRight (together set other)
along_together b m r set other one two = record {
  steps = λ s l from room. elim (in_either set other _ from) [
    | inl first ↦ in_first set other _ (one.steps s l first room)
    | inr second ↦ in_second set other _ (two.steps s l second room)
  ];
}

-- a right's node and what a search goes on to from it and from what was claimed
pub claim_made : {b : Basin} {m : MonthRecord} {r node : ℕ} {q one q' : QueueView} → node_of b r ≡ Some node →
    IsClosedAlong b m r ToRight q.seen → IsVisit q one node → HasGrown b m r ToRight one q' →
    IsClosedAlong b m r ToRight q'.seen → IsClaim b m r q q'
claim_made {b = b} {m = m} {r = r} {node = node} {q = q} {q' = q'} at closed visit grown along = record {
  in_queue = grown.in_queue;
  count = grown.count ∙ visit.count;
  extends = extends_then visit.extends grown.extends;
  closed = along;
  holds = λ core is n h. is.upstream.least q'.seen (backward_from_along b m r q'.seen along)
      (ap (has q'.seen) (itself core is) ∙ grown.extends.kept node visit.on) n h;
  only = λ core is n h. in_either q.seen core n
      (grown.least (together q.seen core)
      (along_together b m r q.seen core closed (along_from_backward b m r core is.upstream.closed))
      (λ v saw. elim (visit.only v saw) [
        | inl same ↦ in_second q.seen core v (ap (has core) (same ∙ sym (itself core is)) ∙ is.upstream.holds)
        | inr old ↦ in_first q.seen core v old
      ]) n h);
}
  where
    itself : (core : List Bool) (is : IsCore b m r core) → is.node ≡ node
    itself core is = let same : Some is.node ≡ Some node = sym is.at ∙ at in cc

-- one more index is marked
pub marked_more : (q : QueueView) (from position right : ℕ) (firsts firsts' : List (Option ℕ)) → from ≤ position →
    slice_index q.nodes position < length firsts → AreMarked q from position right firsts firsts' →
    AreMarked q from (position + 1) right firsts (slice_set firsts' (slice_index q.nodes position) (Some right))
marked_more q from position right firsts firsts' above below now = record {
  count = length-set firsts' (slice_index q.nodes position) (Some right) ∙ now.count;
  marked = λ j a l. elim (cases_eq (slice_index q.nodes j) (slice_index q.nodes position)) [
    | inl same ↦ ap (λ v. slice_index_or (slice_set firsts' (slice_index q.nodes position) (Some right)) v None) same
        ∙ get_or-set_same firsts' (slice_index q.nodes position) (Some right) None (let c = now.count in omega arith)
    | inr other ↦
        get_or-set_other firsts' (slice_index q.nodes position) (slice_index q.nodes j) (Some right) None other
        ∙ now.marked j a (earlier j l other)
  ];
  kept = λ v apart. get_or-set_other firsts' (slice_index q.nodes position) v (Some right) None
      (λ same. apart position above (omega arith) (sym same))
      ∙ now.kept v (λ j a l. apart j a (omega arith));
}
  where
    earlier : (j : ℕ) → j < position + 1 → slice_index q.nodes j ≢ slice_index q.nodes position → j < position
    earlier j l other = elim (cases_lt j position) [
      | inl less ↦ less
      | inr last ↦ absurd (other (ap (slice_index q.nodes) (let at : j ≡ position = omega arith in at)))
    ]

-- at the start nothing was claimed
abbrev no_marks : ℕ → List (Option ℕ)
no_marks n = replicate n None

pub none_claimed : (b : Basin) (m : MonthRecord) (q : QueueView) (firsts : List (Option ℕ)) →
    IsEmpty (length b.nodes) q → firsts ≡ no_marks (length b.nodes) → AreClaimed b m 0 q firsts
none_claimed b m q firsts empty none = record {
  in_queue = empty.in_queue;
  count = empty.count;
  one_each = ap (λ (xs : List (Option ℕ)). length xs) none ∙ length-replicate {A = Option ℕ} (length b.nodes) None;
  closed = λ i a l short. record { steps = λ s l from room. absurd (both_ways _ (seen_none empty _) from) };
  claimed = λ n h. absurd (both_ways _ (seen_none empty n) h);
  free = λ n l out. (
    ap (λ (xs : List (Option ℕ)). slice_index_or xs n None) none ∙ nothing (length b.nodes) n,
    λ i a could. absurd (omega arith),
  );
}
  where
    nothing : (k n : ℕ) → slice_index_or (no_marks k) n None ≡ None
    nothing zero n = refl
    nothing (suc k) zero = refl
    nothing (suc k) (suc n) = nothing k n

-- a right that is not short claims nothing
pub passed_over : (b : Basin) (m : MonthRecord) (position : ℕ) (q : QueueView) (firsts : List (Option ℕ)) →
    slice_index m.want (right_at b position) ≤ slice_index m.delivered (right_at b position) →
    AreClaimed b m position q firsts → AreClaimed b m (position + 1) q firsts
passed_over b m position q firsts met now = record {
  in_queue = now.in_queue;
  count = now.count;
  one_each = now.one_each;
  closed = λ i a l short. now.closed i (omega arith) l short;
  claimed = now.claimed;
  free = λ n l out. (
    (now.free n l out).0,
    λ i a could. elim (cases_eq i position) [
      | inl same ↦ (let short = subst (λ (k : ℕ). IsShort m (right_at b k)) same could.short in absurd (omega arith))
      | inr other ↦ (now.free n l out).1 i (omega arith) could
    ],
  );
}

-- a short one claims the nodes of its core that no senior claimed
pub claimed_more : (b : Basin) (m : MonthRecord) (position : ℕ) (q q' : QueueView) (firsts firsts' : List (Option ℕ)) →
    HasPlan b m → IsSeniorityOrder b.rights (seniors_first b) → position < length b.rights →
    IsShortRight b m (right_at b position) → AreClaimed b m position q firsts → IsClaim b m (right_at b position) q q' →
    AreMarked q' q.size q'.size (right_at b position) firsts firsts' → AreClaimed b m (position + 1) q' firsts'
claimed_more b m position q q' firsts firsts' given o below short now claim mark = record {
  in_queue = claim.in_queue;
  count = claim.count ∙ now.count;
  one_each = mark.count ∙ now.one_each;
  closed = λ i a l short_i. along_for_junior b m r (right_at b i) ToRight q'.seen given short
      (senior_at b position i o l (omega arith)) claim.closed;
  claimed = λ n h. elim (cases_Bool (has q.seen n)) [
    | inl old ↦ (let was = now.claimed n old in (was.0, kept n old ∙ was.1, was.2))
    | inr fresh ↦ (r, added n h fresh, owned n h fresh)
  ];
  free = λ n l out. (
    mark.kept n (λ j a k same. both_ways (has q'.seen n) out (ap (has q'.seen) (sym same) ∙ claim.in_queue.queued j k))
        ∙ (now.free n l (apart n out)).0,
    λ i a could. elim (cases_eq i position) [
      | inl same ↦ (let takes = subst (λ (k : ℕ). HasCoreAt b m n (right_at b k)) same could in
          both_ways (has q'.seen n) out (claim.holds takes.core takes.is_core n takes.here))
      | inr other ↦ (now.free n l (apart n out)).1 i (omega arith) could
    ],
  );
}
  where
    r : ℕ
    r = right_at b position

    apart : (n : ℕ) → has q'.seen n ≡ false → has q.seen n ≡ false
    apart n out = elim (cases_Bool (has q.seen n)) [
      | inl old ↦ absurd (both_ways (has q'.seen n) out (claim.extends.kept n old))
      | inr fresh ↦ fresh
    ]

    -- a node that was there keeps its mark
    kept : (n : ℕ) → has q.seen n ≡ true → slice_index_or firsts' n None ≡ slice_index_or firsts n None
    kept n old =
        let at = now.in_queue.each n old in
        let inside = at.1 in
        mark.kept n (λ j a k same. claim.in_queue.once at.0 j (omega arith) k
        (claim.extends.prefix at.0 at.1 ∙ (at.2 ∙ sym same)))

    added : (n : ℕ) → has q'.seen n ≡ true → has q.seen n ≡ false → slice_index_or firsts' n None ≡ Some r
    added n h fresh =
        let at = claim.in_queue.each n h in
        ap (λ (v : ℕ). slice_index_or firsts' v None) (sym at.2) ∙ mark.marked at.0 (elim (cases_lt at.0 q.size) [
          | inl before ↦ absurd (both_ways (has q.seen n) fresh
              (ap (has q.seen) (sym at.2 ∙ claim.extends.prefix at.0 before) ∙ now.in_queue.queued at.0 before))
          | inr after ↦ after
        ]) at.1

    owned : (n : ℕ) → has q'.seen n ≡ true → has q.seen n ≡ false → IsFirstCoreAt b m n r
    owned n h fresh =
        let core = core_of b m r given short.in_range in
        record {
          has_core = record {
            in_range = short.in_range;
            short = short.short;
            core = core.0;
            is_core = core.1;
            here = elim (claim.only core.0 core.1 n h) [
              | inl old ↦ absurd (both_ways (has q.seen n) fresh old)
              | inr held ↦ held
            ];
          };
          first = λ s senior could.
              let at = o.placed position below in
              let before = ltb-true (o.place s) (o.place r)
              (sym (o.senior s r could.in_range short.in_range) ∙ senior) in
              (now.free n (let k = has_below q'.seen n h in let c = claim.count in let d = now.count in omega arith)
              fresh).1 (o.place s) (omega arith)
              (subst (λ (t : ℕ). HasCoreAt b m n t) (sym (o.each s could.in_range)) could);
        }

-- all rights had their turn
pub all_served : (b : Basin) (m : MonthRecord) (position : ℕ) (q : QueueView)
    (firsts : List (Option ℕ)) → IsSeniorityOrder b.rights (seniors_first b) → length b.rights ≤ position →
    AreClaimed b m position q firsts → AreFirstCores b m firsts
all_served b m position q firsts o all now = record {
  one_each = now.one_each;
  each = λ n l. elim (cases_Bool (has q.seen n)) [
    | inl held ↦ (let was = now.claimed n held in subst (IsFirstCoreOrNone b m n) (sym was.1) was.2)
    | inr out ↦ subst (IsFirstCoreOrNone b m n) (sym (now.free n l out).0) (λ s could.
        (now.free n l out).1 (o.place s) (let p = o.in_range s could.in_range in omega arith)
        (subst (λ (t : ℕ). HasCoreAt b m n t) (sym (o.each s could.in_range)) could))
  ];
}
