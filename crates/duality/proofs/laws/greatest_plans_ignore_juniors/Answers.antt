use Rattle.duality.proofs.Alike.{greatest_plans_ignore_juniors}
use Rattle.duality.proofs.laws.greatest_plans_ignore_juniors.Goals as goal

pub returns : goal.returns
returns c = greatest_plans_ignore_juniors
