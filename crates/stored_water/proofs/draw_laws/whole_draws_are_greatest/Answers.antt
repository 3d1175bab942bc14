use Rattle.stored_water.proofs.Stopping.{whole_draws_are_greatest}
use Rattle.stored_water.proofs.draw_laws.whole_draws_are_greatest.Goals as goal

pub returns : goal.returns
returns c = whole_draws_are_greatest
