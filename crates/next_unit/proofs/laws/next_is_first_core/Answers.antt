use Rattle.next_unit.proofs.InHistories.{next_is_first_core}
use Rattle.next_unit.proofs.laws.next_is_first_core.Goals as goal

pub returns : goal.returns
returns c = next_is_first_core
