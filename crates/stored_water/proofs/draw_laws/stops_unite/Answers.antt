use Rattle.stored_water.proofs.United.{stops_unite}
use Rattle.stored_water.proofs.draw_laws.stops_unite.Goals as goal

pub returns : goal.returns
returns c = stops_unite
