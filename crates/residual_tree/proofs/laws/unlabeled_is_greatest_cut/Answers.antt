use Rattle.residual_tree.proofs.Reaches.{unlabeled_is_greatest_cut_lem}
use Rattle.residual_tree.proofs.laws.unlabeled_is_greatest_cut.Goals as goal

pub returns : goal.returns
returns c = unlabeled_is_greatest_cut_lem
