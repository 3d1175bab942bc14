use Rattle.std.proofs.Common.{ap}
use Rattle.plan_residual.proofs.Claiming.{claim_made}
use Rattle.plan_residual.proofs.Spreading.{followed_from_closed}
use Rattle.plan_residual.proofs.claims.claim.Goals as goal

pub spread_on-requires-clause-followed : goal.spread_on-requires-clause-followed
spread_on-requires-clause-followed c = rw c.len-before.ensures (
    followed_from_closed c.requires.queue.in_queue c.visit.ensures.extends c.requires.closed
    )

pub returns : goal.returns
returns c =
    claim_made (rw (ap (λ k. k.basin) c.scene.view_is) at c.node_of.ensures.value) c.requires.closed c.visit.ensures
    c.spread_on.ensures.grown c.spread_on.ensures.closed
