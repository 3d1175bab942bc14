use Rattle.next_unit.proofs.InHistories.{curtailed_are_called}
use Rattle.next_unit.proofs.laws.curtailed_are_called.Goals as goal

pub returns : goal.returns
returns c = curtailed_are_called
