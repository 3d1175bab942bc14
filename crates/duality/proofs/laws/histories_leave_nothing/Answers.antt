use Rattle.duality.proofs.Sheltered.{histories_leave_nothing}
use Rattle.duality.proofs.laws.histories_leave_nothing.Goals as goal

pub returns : goal.returns
returns c = histories_leave_nothing
