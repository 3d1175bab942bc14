use Rattle.river_net.proofs.RiverPlan.{river_is_plan}
use Rattle.river_net.proofs.laws.run_of_river_is_plan.Goals as goal

pub returns : goal.returns
returns c = river_is_plan
