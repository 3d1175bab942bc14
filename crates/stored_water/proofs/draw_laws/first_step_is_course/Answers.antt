use Rattle.stored_water.proofs.FirstSteps.{first_step_is_course}
use Rattle.stored_water.proofs.draw_laws.first_step_is_course.Goals as goal

pub returns : goal.returns
returns c = first_step_is_course
