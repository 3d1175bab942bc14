use Rattle.next_unit.proofs.Next.{first_core_is_decided}
use Rattle.next_unit.proofs.laws.first_core_is_decided.Goals as goal

pub returns : goal.returns
returns c = first_core_is_decided
