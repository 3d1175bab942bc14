use Rattle.residual_tree.specs.Tree.{IsResidualTree}
use Rattle.tests_networks.proofs.tree_raises.play_all.Given as goal

abbrev pub invariant-loop-turn : goal.invariant-loop-turn
invariant-loop-turn g l = IsResidualTree l.circ l.tree
