use Rattle.draw_course.proofs.Alike.{taken_are_alike}
use Rattle.draw_course.proofs.laws.taken_are_alike.Goals as goal

pub returns : goal.returns
returns c = taken_are_alike
