use Rattle.call_list.proofs.Determined.{found_is_determined}
use Rattle.call_list.proofs.laws.found_is_determined.Goals as goal

pub returns : goal.returns
returns c = found_is_determined
