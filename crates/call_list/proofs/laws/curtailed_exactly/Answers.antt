use Rattle.call_list.proofs.Answers.{curtailed_exactly}
use Rattle.call_list.proofs.laws.curtailed_exactly.Goals as goal

pub returns : goal.returns
returns c = curtailed_exactly
