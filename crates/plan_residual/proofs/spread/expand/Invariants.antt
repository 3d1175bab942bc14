use Rattle.std.proofs.Common.{◌-◌}
use Rattle.std.specs.Prelude.{unwrap_or}
use Rattle.plan_residual.specs.Rows.{step_count}
use Rattle.plan_residual.proofs.Spreading.{IsSpreading}
use Rattle.plan_residual.proofs.spread.expand.Given as goal

abbrev pub invariant-loop-at : goal.invariant-loop-at
invariant-loop-at l = IsSpreading l.scene.basin l.scene.month l.right l.direction l.initial.queue
    l.queue l.done l.at

abbrev pub decreases-loop-at : goal.decreases-loop-at
decreases-loop-at l = step_count l.scene.basin - unwrap_or l.at (step_count l.scene.basin)
