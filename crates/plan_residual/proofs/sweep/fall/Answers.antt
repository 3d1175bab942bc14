use Rattle.plan_residual.proofs.Reaching.{reaching_grown, reaching_still}
use Rattle.plan_residual.proofs.sweep.fall.Goals as goal

pub follow-requires-clause-right : goal.follow-requires-clause-right
follow-requires-clause-right c = c.requires.right

pub follow-requires-clause-queue : goal.follow-requires-clause-queue
follow-requires-clause-queue c = record { in_queue = c.requires.reaching.in_queue; count = c.requires.reaching.count }

pub returns-then-seen-index-clause-on : goal.returns-then-seen-index-clause-on
returns-then-seen-index-clause-on c = reaching_grown c.requires.reaching c.follow.ensures.grown

pub returns-else-seen-index-clause-on : goal.returns-else-seen-index-clause-on
returns-else-seen-index-clause-on c = reaching_still c.requires.reaching
