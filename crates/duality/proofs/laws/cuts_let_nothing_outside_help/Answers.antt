use Rattle.duality.proofs.Sheltered.{cuts_let_nothing_outside_help}
use Rattle.duality.proofs.laws.cuts_let_nothing_outside_help.Goals as goal

pub returns : goal.returns
returns c = cuts_let_nothing_outside_help
