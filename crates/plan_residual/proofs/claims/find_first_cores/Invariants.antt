use Rattle.plan_residual.specs.Claims.{AreClaimed}
use Rattle.plan_residual.proofs.claims.find_first_cores.Given as goal

abbrev pub invariant-loop-position : goal.invariant-loop-position
invariant-loop-position l = AreClaimed l.scene.basin l.scene.month l.position l.queue l.firsts
