use Rattle.std.proofs.Common.{sym, ◌∙◌}
use Rattle.river_net.proofs.Searches.{expand_found, expand_next}
use Rattle.river_net.proofs.cycle.Search.expand.Goals as goal

pub returns-then-head-start-clause-found : goal.returns-then-head-start-clause-found
returns-then-head-start-clause-found c =
    expand_found (rw c.in-Some.is at c.loop-next.invariant) (sym c.head-head.ensures.value ∙ c.if-head-start.true)

pub loop-next-preserved : goal.loop-next-preserved
loop-next-preserved c =
    expand_next c.first-next.ensures.within (rw c.in-Some.is at c.loop-next.invariant)
    (λ h. c.if-head-start.false (c.head-head.ensures.value ∙ h))
    (rw c.head-head.ensures.value at c.in_ok-visit.ensures.seen)
    (rw c.head-head.ensures.value at c.in_ok-visit.ensures.queue) c.next-next.ensures
