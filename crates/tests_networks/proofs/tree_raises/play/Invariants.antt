use Rattle.residual_tree.specs.Tree.{IsResidualTree}
use Rattle.tests_networks.proofs.tree_raises.play.Given as goal

abbrev pub invariant-loop-raises : goal.invariant-loop-raises
invariant-loop-raises g l = IsResidualTree l.circ l.tree
