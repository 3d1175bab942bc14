use Rattle.next_unit.proofs.InHistories.{curtailed_get_nothing}
use Rattle.next_unit.proofs.laws.curtailed_get_nothing.Goals as goal

pub returns : goal.returns
returns c = curtailed_get_nothing
