use Rattle.plan_residual.specs.Search.{ReachesOn}
use Rattle.plan_residual.specs.Sweep.{ArePassed}
use Rattle.plan_residual.proofs.sweep.pass_all.Given as goal

abbrev pub invariant-loop-position : goal.invariant-loop-position
invariant-loop-position l = record {
  on : ReachesOn l.scene.basin l.scene.month l.right l.initial.queue l.queue;
  passed : ArePassed l.scene.basin l.scene.month l.right l.initial.queue.seen l.queue.seen l.from l.position;
}
