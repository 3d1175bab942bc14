use Rattle.stored_water.proofs.Steps.{supplies_add_carried}
use Rattle.stored_water.proofs.step_laws.supplies_add_carried.Goals as goal

pub returns : goal.returns
returns c = supplies_add_carried
