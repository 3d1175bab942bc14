use Rattle.duality.proofs.Greatest.{cuts_let_nobody_get_more}
use Rattle.duality.proofs.laws.cuts_let_nobody_get_more.Goals as goal

pub returns : goal.returns
returns c = cuts_let_nobody_get_more
