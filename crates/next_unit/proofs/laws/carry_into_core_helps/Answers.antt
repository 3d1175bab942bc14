use Rattle.next_unit.proofs.Raises.{carry_into_core_helps}
use Rattle.next_unit.proofs.laws.carry_into_core_helps.Goals as goal

pub returns : goal.returns
returns c = carry_into_core_helps
