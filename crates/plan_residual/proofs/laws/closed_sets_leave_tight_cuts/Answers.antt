use Rattle.plan_residual.proofs.Closed.{closed_sets_leave_tight_cuts}
use Rattle.plan_residual.proofs.laws.closed_sets_leave_tight_cuts.Goals as goal

pub returns : goal.returns
returns c = closed_sets_leave_tight_cuts
