use Rattle.residual_tree.proofs.Reaches.{cut_stays_when_held_lem}
use Rattle.residual_tree.proofs.laws.cut_stays_when_held.Goals as goal

pub returns : goal.returns
returns c = cut_stays_when_held_lem
