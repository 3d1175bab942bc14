use Rattle.call_list.proofs.Determined.{list_is_determined}
use Rattle.call_list.proofs.laws.list_is_determined.Goals as goal

pub returns : goal.returns
returns c = list_is_determined
