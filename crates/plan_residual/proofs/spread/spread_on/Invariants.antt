use Rattle.std.proofs.Common.{◌-◌, length}
use Rattle.plan_residual.specs.Search.{AreFollowed, HasGrown}
use Rattle.plan_residual.proofs.spread.spread_on.Given as goal

abbrev pub invariant-loop-done : goal.invariant-loop-done
invariant-loop-done l = record {
  grown : HasGrown l.scene.basin l.scene.month l.right l.direction l.initial.queue l.queue;
  followed : AreFollowed l.scene.basin l.scene.month l.right l.direction l.queue l.done;
}

abbrev pub decreases-loop-done : goal.decreases-loop-done
decreases-loop-done l = length l.scene.basin.nodes - l.done
