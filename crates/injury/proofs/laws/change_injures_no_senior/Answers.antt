use Rattle.injury.proofs.Changed.{change_injures_no_senior}
use Rattle.injury.proofs.laws.change_injures_no_senior.Goals as goal

pub returns : goal.returns
returns c = change_injures_no_senior
