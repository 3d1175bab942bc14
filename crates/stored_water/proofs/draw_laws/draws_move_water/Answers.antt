use Rattle.stored_water.proofs.Drawing.{draws_move_water}
use Rattle.stored_water.proofs.draw_laws.draws_move_water.Goals as goal

pub returns : goal.returns
returns c = draws_move_water
