use Rattle.duality.proofs.Greatest.{cuts_make_greatest}
use Rattle.duality.proofs.laws.cuts_make_greatest.Goals as goal

pub returns : goal.returns
returns c = cuts_make_greatest
