use Rattle.injury.proofs.Runs.{junior_injures_nobody}
use Rattle.injury.proofs.laws.junior_injures_nobody.Goals as goal

pub returns : goal.returns
returns c = junior_injures_nobody
