use Rattle.plan_residual.proofs.Queues.{extends_then}
use Rattle.plan_residual.proofs.Reaching.{reached_own}
use Rattle.plan_residual.proofs.Spreading.{followed_from_closed}
use Rattle.plan_residual.proofs.sources.spread_own.Goals as goal

pub spread_on-requires-clause-followed : goal.spread_on-requires-clause-followed
spread_on-requires-clause-followed c = rw c.len-before.ensures (
    followed_from_closed c.requires.queue.in_queue c.see_own.ensures.extends c.requires.reached.closed.along
    )

pub returns-clause-extends : goal.returns-clause-extends
returns-clause-extends c = extends_then c.see_own.ensures.extends c.spread_on.ensures.grown.extends

pub returns-clause-reached : goal.returns-clause-reached
returns-clause-reached c =
    reached_own c.requires.reached c.see_own.ensures c.spread_on.ensures.grown c.spread_on.ensures.closed
