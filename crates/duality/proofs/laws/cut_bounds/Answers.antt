use Rattle.duality.proofs.Greatest.{cut_bounds}
use Rattle.duality.proofs.laws.cut_bounds.Goals as goal

pub returns : goal.returns
returns c = cut_bounds
