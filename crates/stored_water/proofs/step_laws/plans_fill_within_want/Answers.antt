use Rattle.stored_water.proofs.Steps.{plans_fill_within_want}
use Rattle.stored_water.proofs.step_laws.plans_fill_within_want.Goals as goal

pub returns : goal.returns
returns c = plans_fill_within_want
