use Rattle.plan_residual.proofs.Reaching.{SawOutlets}
use Rattle.plan_residual.proofs.sources.see_outlets.Given as goal

abbrev pub invariant-loop-node : goal.invariant-loop-node
invariant-loop-node l = SawOutlets l.scene.basin l.scene.month l.right l.initial.queue l.queue l.node
