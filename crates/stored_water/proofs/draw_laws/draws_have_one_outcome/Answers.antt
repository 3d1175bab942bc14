use Rattle.stored_water.proofs.Drawing.{draws_have_one_outcome}
use Rattle.stored_water.proofs.draw_laws.draws_have_one_outcome.Goals as goal

pub returns : goal.returns
returns c = draws_have_one_outcome
