use Rattle.std.proofs.Common.{arith}
use Rattle.plan_residual.proofs.Reaching.{reaching_still}
use Rattle.plan_residual.proofs.sources.see_outlet.Goals as goal

pub visit-requires-clause-queue : goal.visit-requires-clause-queue
visit-requires-clause-queue c = c.requires.reaching.in_queue

pub visit-requires-clause-node : goal.visit-requires-clause-node
visit-requires-clause-node c = omega (arith, c.requires.reaching.count, c.requires.node)

pub returns-else-index-gt0-clause-on : goal.returns-else-index-gt0-clause-on
returns-else-index-gt0-clause-on c = reaching_still c.requires.reaching
