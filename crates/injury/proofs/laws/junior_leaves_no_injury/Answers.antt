use Rattle.injury.proofs.Pairs.{junior_leaves_no_injury}
use Rattle.injury.proofs.laws.junior_leaves_no_injury.Goals as goal

pub returns : goal.returns
returns c = junior_leaves_no_injury
