use Rattle.stored_water.proofs.Ledgers.{months_have_one_outcome}
use Rattle.stored_water.proofs.draw_laws.months_have_one_outcome.Goals as goal

pub returns : goal.returns
returns c = months_have_one_outcome
