use Rattle.month_fold.proofs.Outcomes.{runs_have_one_outcome}
use Rattle.month_fold.proofs.laws.runs_have_one_outcome.Goals as goal

pub returns : goal.returns
returns c = runs_have_one_outcome
