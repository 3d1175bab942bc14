use Rattle.plan_residual.specs.Queue.{IsQueueIn}
use Rattle.plan_residual.specs.Sweep.{IsAt, IsFirstFrom}
use Rattle.plan_residual.proofs.sweep.sweep.Given as goal

abbrev pub invariant-loop-position : goal.invariant-loop-position
invariant-loop-position l = record {
  queue : IsQueueIn l.scene.basin l.queue;
  last : IsAt l.scene.basin l.scene.month l.queue.seen l.position l.last;
  answer : IsFirstFrom l.scene.basin l.scene.month l.position l.answer;
}
