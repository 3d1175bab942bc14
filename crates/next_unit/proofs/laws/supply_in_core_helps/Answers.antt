use Rattle.next_unit.proofs.Helps.{supply_in_core_helps}
use Rattle.next_unit.proofs.laws.supply_in_core_helps.Goals as goal

pub returns : goal.returns
returns c = supply_in_core_helps
