-- The steps that leave one node are followed, from the first to the last.
use Rattle.std.proofs.Common.{◌≡◌, ℕ, ◌+◌, ◌-◌, ◌<◌, ◌≤◌, Bool, true, refl, sym, ◌∙◌, ap, subst, arith, List}
use Rattle.std.proofs.Common.{inl, inr}
use Rattle.std.proofs.lemmas.Bool.{cases_eq, cases_lt, lt-ltb, ltb-true}
use Rattle.std.specs.Prelude.{Option, Some, None, IfSome, nat_lt, slice_index}
use Rattle.chains.specs.Chains.{is_before}
use Rattle.chains.proofs.Walking.{next_has, splits}
use Rattle.water_model.specs.Lookups.{has}
use Rattle.water_model.specs.declared.types.Basin.{Basin}
use Rattle.water_model.specs.declared.types.MonthRecord.{MonthRecord}
use Rattle.plan_residual.specs.declared.steps.Direction.{Direction}
use Rattle.plan_residual.specs.Residual.{start_of, end_of, has_room}
use Rattle.plan_residual.specs.Rows.{step_count, IsNextFrom}
use Rattle.plan_residual.specs.Queue.{QueueView, IsQueue, Extends, IsVisit}
use Rattle.plan_residual.specs.Search.{asked, AreFollowed, HasGrown, IsClosedAlong, IsFollowed}
use Rattle.plan_residual.proofs.Queues.{extends_same, extends_then}

-- nothing is added
pub grown_none : (b : Basin) (m : MonthRecord) (r : ℕ) (d : Direction) (q : QueueView) → IsQueue q →
    HasGrown b m r d q q
grown_none b m r d q now = record {
  in_queue = now;
  count = refl;
  extends = extends_same q;
  least = λ other along held n h. held n h;
}

-- the node that a step leads to is added, or was there
pub grown_by_step : {b : Basin} {m : MonthRecord} {r : ℕ} {d : Direction} {q q' : QueueView} (step : ℕ) →
    IsVisit q q' (end_of b step) → step < step_count b → has q.seen (start_of b step) ≡ true →
    has_room b m r (asked d step) ≡ true → HasGrown b m r d q q'
grown_by_step {b = b} step visit l from room = record {
  in_queue = visit.in_queue;
  count = visit.count;
  extends = visit.extends;
  least = λ other along held n h. elim (visit.only n h) [
    | inl same ↦ ap (has other) same ∙ along.steps step l (held (start_of b step) from) room
    | inr old ↦ held n old
  ];
}

-- one addition after another
pub grown_then : {b : Basin} {m : MonthRecord} {r : ℕ} {d : Direction} {q one two : QueueView} →
    HasGrown b m r d q one → HasGrown b m r d one two → HasGrown b m r d q two
grown_then x y = record {
  in_queue = y.in_queue;
  count = y.count ∙ x.count;
  extends = extends_then x.extends y.extends;
  least = λ other along held n h. y.least other along (x.least other along held) n h;
}

-- a step that was followed stays so
pub followed_stays : (b : Basin) (m : MonthRecord) (r : ℕ) (d : Direction) (s : ℕ) (seen seen' : List Bool) →
    ((v : ℕ) → has seen v ≡ true → has seen' v ≡ true) → IsFollowed b m r d seen s → IsFollowed b m r d seen' s
followed_stays b m r d s seen seen' grows h = λ room. grows (end_of b s) (h room)

-- since a search had come so far, steps from the first nodes of the queue were followed, and of those from the next
-- node the ones before a step
pub record IsSpreading (b : Basin) (m : MonthRecord) (r : ℕ) (d : Direction) (q q' : QueueView) (done : ℕ)
    (next : Option ℕ) : Type 0 where
  pub grown : HasGrown b m r d q q'
  pub before : AreFollowed b m r d q' done
  pub leaves : IfSome next (λ s. (s < step_count b) × (start_of b s ≡ slice_index q'.nodes done))
  pub followed : (s : ℕ) → s < step_count b → start_of b s ≡ slice_index q'.nodes done → is_before next s ≡ true →
      IsFollowed b m r d q'.seen s

-- a step that leaves the node before the next one is before the number from which that was looked for
passed : (b : Basin) (v from : ℕ) (o : Option ℕ) → IsNextFrom b v from o → (s : ℕ) → s < step_count b →
    start_of b s ≡ v → is_before o s ≡ true → s < from
passed b v from o h s l e before =
    ltb-true s from (sym (splits (start_of b) v from (step_count b) o h s l e) ∙ before)

-- before the first step of the node
pub spreading_start : (b : Basin) (m : MonthRecord) (r : ℕ) (d : Direction) (q : QueueView) (done : ℕ)
    (next : Option ℕ) → IsQueue q → AreFollowed b m r d q done → IsNextFrom b (slice_index q.nodes done) 0 next →
    IsSpreading b m r d q q done next
spreading_start b m r d q done next now before first = record {
  grown = grown_none b m r d q now;
  before = before;
  leaves = next_has (start_of b) (slice_index q.nodes done) 0 (step_count b) next first;
  followed = λ s l at earlier. absurd (let no = passed b (slice_index q.nodes done) 0 next first s l at earlier in
      omega arith);
}

-- one more step
pub spreading_next : {b : Basin} {m : MonthRecord} {r : ℕ} {d : Direction} {q one two : QueueView} {done step : ℕ}
    (next : Option ℕ) → done < q.size → IsSpreading b m r d q one done (Some step) → HasGrown b m r d one two →
    IsFollowed b m r d two.seen step → IsNextFrom b (start_of b step) (step + 1) next →
    IsSpreading b m r d q two done next
spreading_next {b = b} {m = m} {r = r} {d = d} {one = one} {two = two} {done = done} {step = step} next below
    now more this further = record {
      grown = grown_then now.grown more;
      before = λ j s l k at room. more.extends.kept (end_of b s)
          (now.before j s l k (at ∙ more.extends.prefix j (omega arith)) room);
      leaves = subst (λ v. IfSome next (λ s. (s < step_count b) × (start_of b s ≡ v))) here
          (next_has (start_of b) (start_of b step) (step + 1) (step_count b) next further);
      followed = λ s l at before room. elim (cases_eq s step) [
        | inl same ↦ subst (λ k. IsFollowed b m r d two.seen k) (sym same) this room
        | inr other ↦ (let less = passed b (start_of b step) (step + 1) next further s l (at ∙ sym here) before in
            more.extends.kept (end_of b s)
            (now.followed s l (at ∙ more.extends.prefix done inside) (lt-ltb s step (omega arith)) room))
      ];
    }
  where
    inside : done < one.size
    inside = let l = now.grown.extends.larger in omega arith

    here : start_of b step ≡ slice_index two.nodes done
    here = now.leaves.1 ∙ sym (more.extends.prefix done inside)

-- after the last step of the node
pub spreading_end : {b : Basin} {m : MonthRecord} {r : ℕ} {d : Direction} {q q' : QueueView} {done : ℕ} →
    IsSpreading b m r d q q' done None → AreFollowed b m r d q' (done + 1)
spreading_end {q' = q'} {done = done} now = λ j s l below at. elim (cases_eq j done) [
  | inl same ↦ now.followed s below (at ∙ ap (slice_index q'.nodes) same) refl
  | inr other ↦ now.before j s (omega arith) below at
]

-- where the search came to the end of the queue, no search goes on
pub closed_at_end : (b : Basin) (m : MonthRecord) (r : ℕ) (d : Direction) (q : QueueView) (done : ℕ) → IsQueue q →
    AreFollowed b m r d q done → q.size ≤ done → IsClosedAlong b m r d q.seen
closed_at_end b m r d q done now followed all = record {
  steps = λ s l from. (let at = now.each (start_of b s) from in
      let below = at.1 in
      followed at.0 s (omega arith) l (sym at.2));
}

-- nor where nothing was added that it could go on from
pub followed_from_closed : {b : Basin} {m : MonthRecord} {r : ℕ} {d : Direction} {q q' : QueueView} → IsQueue q →
    Extends q q' → IsClosedAlong b m r d q.seen → AreFollowed b m r d q' q.size
followed_from_closed {b = b} {m = m} {r = r} {d = d} {q = q} {q' = q'} now more closed = λ j s l below at.
    followed_stays b m r d s q.seen q'.seen more.kept
    (closed.steps s below (ap (has q.seen) (at ∙ more.prefix j l) ∙ now.queued j l))
