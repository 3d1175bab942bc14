use Rattle.injury.proofs.Changed.{change_injures_juniors_alone}
use Rattle.injury.proofs.laws.change_injures_juniors_alone.Goals as goal

pub returns : goal.returns
returns c = change_injures_juniors_alone
