use Rattle.draw_course.proofs.Alike.{draws_are_alike}
use Rattle.draw_course.proofs.laws.draws_are_alike.Goals as goal

pub returns : goal.returns
returns c = draws_are_alike
