use Rattle.stored_water.proofs.Steps.{drawn_are_capped}
use Rattle.stored_water.proofs.step_laws.drawn_are_capped.Goals as goal

pub returns : goal.returns
returns c = drawn_are_capped
