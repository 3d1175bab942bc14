use Rattle.next_unit.proofs.InHistories.{first_changed_is_next}
use Rattle.next_unit.proofs.laws.first_changed_is_next.Goals as goal

pub returns : goal.returns
returns c = first_changed_is_next
