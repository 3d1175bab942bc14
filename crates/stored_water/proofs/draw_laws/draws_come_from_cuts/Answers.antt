use Rattle.stored_water.proofs.Reaches.{draws_come_from_cuts}
use Rattle.stored_water.proofs.draw_laws.draws_come_from_cuts.Goals as goal

pub returns : goal.returns
returns c = draws_come_from_cuts
