use Rattle.duality.proofs.Greatest.{greatest_same}
use Rattle.duality.proofs.laws.greatest_plans_deliver_same.Goals as goal

pub returns : goal.returns
returns c = greatest_same
