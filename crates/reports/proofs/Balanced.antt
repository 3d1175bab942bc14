-- The two sides of the balance are equal.
use Rattle.duality.proofs.Balance.{balanced}
use Rattle.reports.specs.Figures.{waters_of}
use Rattle.reports.specs.Laws.{FiguresAreBalanced}

pub figures_balanced : FiguresAreBalanced
unfolding waters_of
figures_balanced b series records valid partial = balanced b series records valid partial
