use Rattle.plan_residual.proofs.Reaching.{SawJuniors}
use Rattle.plan_residual.proofs.sources.see_juniors.Given as goal

abbrev pub invariant-loop-junior : goal.invariant-loop-junior
invariant-loop-junior l = SawJuniors l.scene.basin l.scene.month l.right l.initial.queue l.queue l.junior
