use Rattle.stored_water.proofs.Drawing.{draws_leave_fills}
use Rattle.stored_water.proofs.draw_laws.draws_leave_fills.Goals as goal

pub returns : goal.returns
returns c = draws_leave_fills
