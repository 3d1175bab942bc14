use Rattle.reports.proofs.Balanced.{figures_balanced}
use Rattle.reports.proofs.laws.figures_are_balanced.Goals as goal

pub returns : goal.returns
returns c = figures_balanced
