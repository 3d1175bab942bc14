use Rattle.plan_residual.proofs.Reaching.{reaching_then}
use Rattle.plan_residual.proofs.sweep.pass.Goals as goal

pub see_junior-requires-clause-right : goal.see_junior-requires-clause-right
see_junior-requires-clause-right c = c.requires.right

pub see_junior-requires-clause-junior : goal.see_junior-requires-clause-junior
see_junior-requires-clause-junior c = c.requires.junior

pub see_junior-requires-clause-reaching : goal.see_junior-requires-clause-reaching
see_junior-requires-clause-reaching c = c.requires.reaching

pub fall_on_own-requires-clause-right : goal.fall_on_own-requires-clause-right
fall_on_own-requires-clause-right c = c.requires.right

pub fall_on_own-requires-clause-junior : goal.fall_on_own-requires-clause-junior
fall_on_own-requires-clause-junior c = c.requires.junior

pub fall_on_own-requires-clause-reaching : goal.fall_on_own-requires-clause-reaching
fall_on_own-requires-clause-reaching c = c.see_junior.ensures.on.reaching

pub returns-clause-on : goal.returns-clause-on
returns-clause-on c = reaching_then c.see_junior.ensures.on c.fall_on_own.ensures.on
