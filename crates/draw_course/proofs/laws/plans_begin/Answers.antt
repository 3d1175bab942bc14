use Rattle.draw_course.proofs.Checks.{plan_course}
use Rattle.draw_course.proofs.laws.plans_begin.Goals as goal

pub returns : goal.returns
returns c = plan_course
