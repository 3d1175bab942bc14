use Rattle.stored_water.proofs.Stopping.{greatest_stop_is_one}
use Rattle.stored_water.proofs.draw_laws.greatest_stop_is_one.Goals as goal

pub returns : goal.returns
returns c = greatest_stop_is_one
