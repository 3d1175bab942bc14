use Rattle.next_unit.proofs.InHistories.{free_is_in_no_core}
use Rattle.next_unit.proofs.laws.free_is_in_no_core.Goals as goal

pub returns : goal.returns
returns c = free_is_in_no_core
