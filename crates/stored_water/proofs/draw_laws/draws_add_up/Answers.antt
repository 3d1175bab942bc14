use Rattle.stored_water.proofs.Drawing.{draws_add_up}
use Rattle.stored_water.proofs.draw_laws.draws_add_up.Goals as goal

pub returns : goal.returns
returns c = draws_add_up
