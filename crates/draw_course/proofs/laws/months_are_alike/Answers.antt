use Rattle.draw_course.proofs.Alike.{months_are_alike}
use Rattle.draw_course.proofs.laws.months_are_alike.Goals as goal

pub returns : goal.returns
returns c = months_are_alike
