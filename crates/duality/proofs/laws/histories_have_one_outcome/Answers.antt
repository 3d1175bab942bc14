use Rattle.duality.proofs.Outcome.{one_outcome}
use Rattle.duality.proofs.laws.histories_have_one_outcome.Goals as goal

pub returns : goal.returns
returns c = one_outcome
