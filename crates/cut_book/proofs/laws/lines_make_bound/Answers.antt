use Rattle.cut_book.proofs.Adding.{lines_make_bound}
use Rattle.cut_book.proofs.laws.lines_make_bound.Goals as goal

pub returns : goal.returns
returns c = lines_make_bound
