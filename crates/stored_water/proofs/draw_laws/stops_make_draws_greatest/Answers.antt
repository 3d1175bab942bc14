use Rattle.stored_water.proofs.Stopping.{stops_make_draws_greatest}
use Rattle.stored_water.proofs.draw_laws.stops_make_draws_greatest.Goals as goal

pub returns : goal.returns
returns c = stops_make_draws_greatest
