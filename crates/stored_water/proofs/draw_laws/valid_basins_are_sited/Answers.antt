use Rattle.stored_water.proofs.Sited.{valid_basins_are_sited}
use Rattle.stored_water.proofs.draw_laws.valid_basins_are_sited.Goals as goal

pub returns : goal.returns
returns c = valid_basins_are_sited
