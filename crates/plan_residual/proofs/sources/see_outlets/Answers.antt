use Rattle.plan_residual.proofs.Reaching.{outlets_more, reaching_then}
use Rattle.plan_residual.proofs.sources.see_outlets.Goals as goal

pub loop-node-preserved : goal.loop-node-preserved
loop-node-preserved c = record {
  on = reaching_then c.loop-node.invariant.on c.see_outlet.ensures.on;
  outlets = outlets_more c.args.scene.now.month c.loop-node.node c.loop-node.queue.seen c.see_outlet.new.queue.seen
      c.see_outlet.ensures.on.extends.kept c.loop-node.invariant.outlets c.see_outlet.ensures.seen;
}
