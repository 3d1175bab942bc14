use Rattle.residual_tree.specs.Repair.{IsShut}
use Rattle.circulation.proofs.Scans.{IsScan}
use Rattle.residual_tree.proofs.growing.find_way.Given as goal

abbrev pub invariant-loop-place : goal.invariant-loop-place
invariant-loop-place l = IsScan l.circ l.node l.place (IsShut l.circ l.labels)
