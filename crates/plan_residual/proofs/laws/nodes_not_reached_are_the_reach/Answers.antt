use Rattle.plan_residual.proofs.Closed.{nodes_not_reached_are_the_reach}
use Rattle.plan_residual.proofs.laws.nodes_not_reached_are_the_reach.Goals as goal

pub returns : goal.returns
returns c = nodes_not_reached_are_the_reach
