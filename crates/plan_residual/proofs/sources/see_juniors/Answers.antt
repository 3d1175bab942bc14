use Rattle.plan_residual.proofs.Reaching.{juniors_more, reaching_then}
use Rattle.plan_residual.proofs.sources.see_juniors.Goals as goal

pub loop-junior-preserved : goal.loop-junior-preserved
loop-junior-preserved c = record {
  on = reaching_then c.loop-junior.invariant.on c.see_junior.ensures.on;
  juniors = juniors_more c.args.scene.now.basin c.args.scene.now.month c.args.right c.loop-junior.junior
      c.loop-junior.queue.seen c.see_junior.new.queue.seen c.see_junior.ensures.on.extends.kept
      c.loop-junior.invariant.juniors c.see_junior.ensures.seen;
}
