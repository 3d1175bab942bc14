use Rattle.stored_water.proofs.Drawing.{courses_and_stops_show_draws}
use Rattle.stored_water.proofs.draw_laws.courses_and_stops_show_draws.Goals as goal

pub returns : goal.returns
returns c = courses_and_stops_show_draws
