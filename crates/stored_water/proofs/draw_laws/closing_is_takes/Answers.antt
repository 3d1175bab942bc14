use Rattle.stored_water.proofs.Stores.{closing_is_takes}
use Rattle.stored_water.proofs.draw_laws.closing_is_takes.Goals as goal

pub returns : goal.returns
returns c = closing_is_takes
