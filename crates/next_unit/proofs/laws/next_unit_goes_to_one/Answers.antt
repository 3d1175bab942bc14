use Rattle.next_unit.proofs.InHistories.{next_unit_goes_to_one}
use Rattle.next_unit.proofs.laws.next_unit_goes_to_one.Goals as goal

pub returns : goal.returns
returns c = next_unit_goes_to_one
