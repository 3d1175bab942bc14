use Rattle.residual_tree.proofs.Reaches.{labeled_is_reachable_lem}
use Rattle.residual_tree.proofs.laws.labeled_is_reachable.Goals as goal

pub returns : goal.returns
returns c = labeled_is_reachable_lem
