use Rattle.stored_water.proofs.Drawing.{shown_draws_are_drawn}
use Rattle.stored_water.proofs.draw_laws.shown_draws_are_drawn.Goals as goal

pub returns : goal.returns
returns c = shown_draws_are_drawn
