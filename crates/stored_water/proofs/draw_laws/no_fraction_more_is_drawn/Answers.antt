use Rattle.stored_water.proofs.Stopping.{no_fraction_more_is_drawn}
use Rattle.stored_water.proofs.draw_laws.no_fraction_more_is_drawn.Goals as goal

pub returns : goal.returns
returns c = no_fraction_more_is_drawn
