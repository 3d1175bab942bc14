use Rattle.next_unit.proofs.Exact.{carry_helps_exactly_into_core}
use Rattle.next_unit.proofs.laws.carry_helps_exactly_into_core.Goals as goal

pub returns : goal.returns
returns c = carry_helps_exactly_into_core
