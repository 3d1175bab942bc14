use Rattle.duality.proofs.Alike.{juniors_change_nothing}
use Rattle.duality.proofs.laws.juniors_change_nothing.Goals as goal

pub returns : goal.returns
returns c = juniors_change_nothing
