use Rattle.duality.proofs.Parts.{no_fraction_helps}
use Rattle.duality.proofs.laws.no_fraction_helps.Goals as goal

pub returns : goal.returns
returns c = no_fraction_helps
