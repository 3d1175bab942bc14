use Rattle.draw_course.proofs.Alike.{stops_are_alike}
use Rattle.draw_course.proofs.laws.stops_are_alike.Goals as goal

pub returns : goal.returns
returns c = stops_are_alike
