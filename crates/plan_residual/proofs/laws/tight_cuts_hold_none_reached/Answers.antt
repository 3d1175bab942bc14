use Rattle.plan_residual.proofs.Closed.{tight_cuts_hold_none_reached}
use Rattle.plan_residual.proofs.laws.tight_cuts_hold_none_reached.Goals as goal

pub returns : goal.returns
returns c = tight_cuts_hold_none_reached
