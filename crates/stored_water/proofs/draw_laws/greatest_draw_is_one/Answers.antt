use Rattle.stored_water.proofs.Stopping.{greatest_draw_is_one}
use Rattle.stored_water.proofs.draw_laws.greatest_draw_is_one.Goals as goal

pub returns : goal.returns
returns c = greatest_draw_is_one
