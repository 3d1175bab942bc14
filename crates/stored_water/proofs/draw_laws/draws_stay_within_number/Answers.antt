use Rattle.stored_water.proofs.Drawing.{draws_stay_within_number}
use Rattle.stored_water.proofs.draw_laws.draws_stay_within_number.Goals as goal

pub returns : goal.returns
returns c = draws_stay_within_number
