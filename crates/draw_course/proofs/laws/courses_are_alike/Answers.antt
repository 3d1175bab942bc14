use Rattle.draw_course.proofs.Alike.{courses_are_alike}
use Rattle.draw_course.proofs.laws.courses_are_alike.Goals as goal

pub returns : goal.returns
returns c = courses_are_alike
