use Rattle.draw_course.proofs.Alike.{answers_show_draws}
use Rattle.draw_course.proofs.laws.answers_show_draws.Goals as goal

pub returns : goal.returns
returns c = answers_show_draws
