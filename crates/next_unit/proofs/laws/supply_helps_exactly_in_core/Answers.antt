use Rattle.next_unit.proofs.Exact.{supply_helps_exactly_in_core}
use Rattle.next_unit.proofs.laws.supply_helps_exactly_in_core.Goals as goal

pub returns : goal.returns
returns c = supply_helps_exactly_in_core
