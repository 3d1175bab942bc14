use Rattle.plan_residual.specs.Claims.{AreMarked}
use Rattle.plan_residual.proofs.claims.mark.Given as goal

abbrev pub invariant-loop-position : goal.invariant-loop-position
invariant-loop-position l = AreMarked l.queue l.from l.position l.right l.initial.firsts l.firsts
