use Rattle.stored_water.proofs.FirstSteps.{courses_with_draws_are_plans}
use Rattle.stored_water.proofs.draw_laws.courses_with_draws_are_plans.Goals as goal

pub returns : goal.returns
returns c = courses_with_draws_are_plans
