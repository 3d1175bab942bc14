use Rattle.residual_tree.specs.Repair.{IsSaturatedTree}
use Rattle.residual_tree.proofs.ResidualTree.repair.Given as goal

abbrev pub invariant-loop-at : goal.invariant-loop-at
invariant-loop-at l = IsSaturatedTree l.circ l.self l.at l.last
