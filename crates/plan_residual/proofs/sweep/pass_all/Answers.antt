use Rattle.std.proofs.Common.{sym}
use Rattle.plan_residual.proofs.Reaching.{reaching_then}
use Rattle.plan_residual.proofs.Sweeping.{passed_more}
use Rattle.plan_residual.proofs.sweep.pass_all.Goals as goal

pub loop-position-preserved : goal.loop-position-preserved
loop-position-preserved c = record {
  on = reaching_then c.loop-position.invariant.on c.pass.ensures.on;
  passed = passed_more c.args.scene.now.basin c.args.scene.now.month c.args.right c.args.queue.now.seen
      c.loop-position.queue.seen c.pass.new.queue.seen c.args.from c.loop-position.position c.right_at.result
      c.loop-position.invariant.on.extends.kept c.pass.ensures.on.extends.kept c.loop-position.invariant.passed
      (sym c.right_at.ensures.value) c.pass.ensures.passed;
}
