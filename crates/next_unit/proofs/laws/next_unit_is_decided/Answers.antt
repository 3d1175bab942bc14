use Rattle.next_unit.proofs.InHistories.{next_unit_is_decided}
use Rattle.next_unit.proofs.laws.next_unit_is_decided.Goals as goal

pub returns : goal.returns
returns c = next_unit_is_decided
