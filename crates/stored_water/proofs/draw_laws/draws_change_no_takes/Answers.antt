use Rattle.stored_water.proofs.FirstSteps.{draws_change_no_takes}
use Rattle.stored_water.proofs.draw_laws.draws_change_no_takes.Goals as goal

pub returns : goal.returns
returns c = draws_change_no_takes
