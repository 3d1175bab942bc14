use Rattle.stored_water.proofs.Stopping.{draw_at_reservoir_is_cap}
use Rattle.stored_water.proofs.draw_laws.draw_at_reservoir_is_cap.Goals as goal

pub returns : goal.returns
returns c = draw_at_reservoir_is_cap
