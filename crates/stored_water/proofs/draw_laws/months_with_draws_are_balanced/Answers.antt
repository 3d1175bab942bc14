use Rattle.stored_water.proofs.Balanced.{months_with_draws_are_balanced}
use Rattle.stored_water.proofs.draw_laws.months_with_draws_are_balanced.Goals as goal

pub returns : goal.returns
returns c = months_with_draws_are_balanced
