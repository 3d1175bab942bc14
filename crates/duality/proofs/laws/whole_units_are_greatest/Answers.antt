use Rattle.duality.proofs.Parts.{whole_units_are_greatest}
use Rattle.duality.proofs.laws.whole_units_are_greatest.Goals as goal

pub returns : goal.returns
returns c = whole_units_are_greatest
