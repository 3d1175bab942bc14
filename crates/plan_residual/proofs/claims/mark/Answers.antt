use Rattle.std.proofs.Common.{arith}
use Rattle.plan_residual.proofs.Claiming.{marked_more}
use Rattle.plan_residual.proofs.claims.mark.Goals as goal

pub loop-position-preserved : goal.loop-position-preserved
loop-position-preserved c = rw c.node.ensures.value (
    marked_more c.args.queue.now c.args.from c.loop-position.position c.args.right c.args.firsts.now
    c.loop-position.firsts c.loop-position.auto.position (omega (arith, c.node.ensures.value, c.node.ensures.within, c.requires.nodes))
    c.loop-position.invariant
    )
