use Rattle.draw_course.proofs.Alike.{greatest_are_drawn}
use Rattle.draw_course.proofs.laws.greatest_are_drawn.Goals as goal

pub returns : goal.returns
returns c = greatest_are_drawn
