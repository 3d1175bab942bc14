use Rattle.stored_water.proofs.Stopping.{stops_let_no_more_be_drawn}
use Rattle.stored_water.proofs.draw_laws.stops_let_no_more_be_drawn.Goals as goal

pub returns : goal.returns
returns c = stops_let_no_more_be_drawn
