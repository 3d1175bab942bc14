use Rattle.injury.proofs.Listed.{injuries_are_all_listed}
use Rattle.injury.proofs.laws.injuries_are_all_listed.Goals as goal

pub returns : goal.returns
returns c = injuries_are_all_listed
