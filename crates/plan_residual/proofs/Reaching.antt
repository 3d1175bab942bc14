-- The nodes that were seen are in every set that is closed but for the end of the right's own link.
use Rattle.std.proofs.Common.{◌≡◌, ℕ, ◌+◌, ◌<◌, Bool, true, sym, ◌∙◌, ap, subst, arith, List, length}
use Rattle.std.proofs.Common.{inl, inr}
use Rattle.std.proofs.lemmas.Bool.{both_ways, cases_eq}
use Rattle.std.specs.Prelude.{Option, Some, None, slice_index}
use Rattle.water_model.specs.Lookups.{has}
use Rattle.water_model.specs.Basin.{taking_node, is_senior}
use Rattle.water_model.specs.Cuts.{node_within, takes_within}
use Rattle.water_model.specs.declared.types.Basin.{Basin}
use Rattle.water_model.specs.declared.types.MonthRecord.{MonthRecord}
use Rattle.plan_residual.specs.declared.steps.Direction.TheVariants.{FromSources}
use Rattle.plan_residual.specs.Residual.{AreReached}
use Rattle.plan_residual.specs.Queue.{QueueView, IsEmpty, IsVisit}
use Rattle.plan_residual.specs.Search.{AreReachedApart, HasGrown, HasJuniors, HasOutlets, IsClosedAlong, IsClosedApart}
use Rattle.plan_residual.specs.Search.{IsOwnVisit, IsReaching, ReachesOn}
use Rattle.plan_residual.proofs.Along.{apart_from_closed, closed_from_apart}
use Rattle.plan_residual.proofs.Queues.{extends_same, extends_then, seen_none}

-- at the start nothing is seen
pub reaching_none : (b : Basin) (m : MonthRecord) (r : ℕ) (q : QueueView) → IsEmpty (length b.nodes) q →
    IsReaching b m r q
reaching_none b m r q empty = record {
  in_queue = empty.in_queue;
  count = empty.count;
  least = λ other closed v h. absurd (both_ways (has q.seen v) (seen_none empty v) h);
}

-- one more node that is in every such set
pub reaching_more : {b : Basin} {m : MonthRecord} {r node : ℕ} {q q' : QueueView} → IsReaching b m r q →
    IsVisit q q' node → ((other : List Bool) → IsClosedApart b m r other → has other node ≡ true) →
    ReachesOn b m r q q'
reaching_more now visit each = record {
  reaching = record {
    in_queue = visit.in_queue;
    count = visit.count ∙ now.count;
    least = λ other closed n h. elim (visit.only n h) [
      | inl same ↦ ap (has other) same ∙ each other closed
      | inr old ↦ now.least other closed n old
    ];
  };
  extends = visit.extends;
}

-- and all that a search goes on to
pub reaching_grown : {b : Basin} {m : MonthRecord} {r : ℕ} {q q' : QueueView} → IsReaching b m r q →
    HasGrown b m r FromSources q q' → ReachesOn b m r q q'
reaching_grown now grown = record {
  reaching = record {
    in_queue = grown.in_queue;
    count = grown.count ∙ now.count;
    least = λ other closed n h. grown.least other closed.along (now.least other closed) n h;
  };
  extends = grown.extends;
}

-- nothing more
pub reaching_still : {b : Basin} {m : MonthRecord} {r : ℕ} {q : QueueView} → IsReaching b m r q → ReachesOn b m r q q
reaching_still {q = q} now = record { reaching = now; extends = extends_same q }

-- one addition after another
pub reaching_then : {b : Basin} {m : MonthRecord} {r : ℕ} {q one two : QueueView} → ReachesOn b m r q one →
    ReachesOn b m r one two → ReachesOn b m r q two
reaching_then x y = record { reaching = y.reaching; extends = extends_then x.extends y.extends }

-- a set that grows keeps what takes within it
pub within_grows : (b : Basin) (seen seen' : List Bool) (s : ℕ) → ((v : ℕ) → has seen v ≡ true → has seen' v ≡ true) →
    takes_within b seen s ≡ true → takes_within b seen' s ≡ true
within_grows b seen seen' s grows h = of_node (taking_node b s) h
  where
    of_node : (o : Option ℕ) → node_within o seen ≡ true → node_within o seen' ≡ true
    of_node None h = h
    of_node (Some n) h = grows n h

pub outlets_grow : (m : MonthRecord) (n : ℕ) (seen seen' : List Bool) →
    ((v : ℕ) → has seen v ≡ true → has seen' v ≡ true) → HasOutlets m n seen → HasOutlets m n seen'
outlets_grow m n seen seen' grows outlets = λ v l some. grows v (outlets v l some)

pub juniors_grow : (b : Basin) (m : MonthRecord) (r n : ℕ) (seen seen' : List Bool) →
    ((v : ℕ) → has seen v ≡ true → has seen' v ≡ true) → HasJuniors b m r n seen → HasJuniors b m r n seen'
juniors_grow b m r n seen seen' grows juniors = λ s l senior takes. within_grows b seen seen' s grows
    (juniors s l senior takes)

-- one outlet, or one junior, more
pub outlets_more : (m : MonthRecord) (n : ℕ) (seen seen' : List Bool) →
    ((v : ℕ) → has seen v ≡ true → has seen' v ≡ true) → HasOutlets m n seen →
    (0 < slice_index m.plan.out n → has seen' n ≡ true) → HasOutlets m (n + 1) seen'
outlets_more m n seen seen' grows outlets one = λ v l some. elim (cases_eq v n) [
  | inl same ↦ subst (λ u. 0 < slice_index m.plan.out u → has seen' u ≡ true) (sym same) one some
  | inr other ↦ grows v (outlets v (omega arith) some)
]

pub juniors_more : (b : Basin) (m : MonthRecord) (r n : ℕ) (seen seen' : List Bool) →
    ((v : ℕ) → has seen v ≡ true → has seen' v ≡ true) → HasJuniors b m r n seen →
    (is_senior b r n ≡ true → 0 < slice_index m.plan.take n → takes_within b seen' n ≡ true) →
    HasJuniors b m r (n + 1) seen'
juniors_more b m r n seen seen' grows juniors one = λ s l senior takes. elim (cases_eq s n) [
  | inl same ↦ subst (λ u. is_senior b r u ≡ true → 0 < slice_index m.plan.take u → takes_within b seen' u ≡ true)
      (sym same) one senior takes
  | inr other ↦ within_grows b seen seen' s grows (juniors s (omega arith) senior takes)
]

-- the outlets below a bound, or the juniors, were seen since a search had come so far
pub record SawOutlets (b : Basin) (m : MonthRecord) (r : ℕ) (q q' : QueueView) (bound : ℕ) : Type 0 where
  pub on : ReachesOn b m r q q'
  pub outlets : HasOutlets m bound q'.seen

pub record SawJuniors (b : Basin) (m : MonthRecord) (r : ℕ) (q q' : QueueView) (bound : ℕ) : Type 0 where
  pub on : ReachesOn b m r q q'
  pub juniors : HasJuniors b m r bound q'.seen

-- where no search goes on from what was seen, that is what is reached but for the end of the right's own link
pub reached_apart : {b : Basin} {m : MonthRecord} {r : ℕ} {q q' : QueueView} → IsReaching b m r q →
    HasOutlets m (length b.nodes) q.seen → HasJuniors b m r (length b.rights) q.seen →
    HasGrown b m r FromSources q q' → IsClosedAlong b m r FromSources q'.seen → AreReachedApart b m r q'.seen
reached_apart {b = b} {m = m} {r = r} {q = q} {q' = q'} now outlets juniors grown along =
    let more = reaching_grown now grown in
    record {
      one_each = more.reaching.count;
      closed = record {
        outlets = outlets_grow m (length b.nodes) q.seen q'.seen grown.extends.kept outlets;
        juniors = juniors_grow b m r (length b.rights) q.seen q'.seen grown.extends.kept juniors;
        along = along;
      };
      least = more.reaching.least;
    }

-- and what is reached, where the search went on from that end too
pub reached_own : {b : Basin} {m : MonthRecord} {r : ℕ} {q one q' : QueueView} → AreReachedApart b m r q.seen →
    IsOwnVisit b r q one → HasGrown b m r FromSources one q' → IsClosedAlong b m r FromSources q'.seen →
    AreReached b m r q'.seen
reached_own {b = b} {m = m} {r = r} {q = q} {q' = q'} now own grown along = record {
  one_each = grown.count ∙ (own.count ∙ now.one_each);
  closed = closed_from_apart b m r q'.seen record {
    outlets = outlets_grow m (length b.nodes) q.seen q'.seen kept now.closed.outlets;
    juniors = juniors_grow b m r (length b.rights) q.seen q'.seen kept now.closed.juniors;
    along = along;
  } (λ e l is. grown.extends.kept _ (own.own e l is));
  least = λ other closed n h.
      grown.least other (apart_from_closed b m r other closed).along (λ v saw. elim (own.only v saw) [
        | inl end ↦ ap (has other) (sym end.3) ∙ closed.own end.0 end.1 end.2
        | inr old ↦ now.least other (apart_from_closed b m r other closed) v old
      ]) n h;
}
  where
    kept : (v : ℕ) → has q.seen v ≡ true → has q'.seen v ≡ true
    kept v h = grown.extends.kept v (own.extends.kept v h)

-- the same of a set with the same nodes
pub apart_same : (b : Basin) (m : MonthRecord) (r : ℕ) (seen seen' : List Bool) → length seen' ≡ length seen →
    ((v : ℕ) → has seen v ≡ true → has seen' v ≡ true) → ((v : ℕ) → has seen' v ≡ true → has seen v ≡ true) →
    AreReachedApart b m r seen → AreReachedApart b m r seen'
apart_same b m r seen seen' count there back now = record {
  one_each = count ∙ now.one_each;
  closed = record {
    outlets = outlets_grow m (length b.nodes) seen seen' there now.closed.outlets;
    juniors = juniors_grow b m r (length b.rights) seen seen' there now.closed.juniors;
    along = record { steps = λ s l from room. there _ (now.closed.along.steps s l (back _ from) room) };
  };
  least = λ other closed n h. now.least other closed n (back n h);
}
