use Rattle.circulation.proofs.Pairs.{ArePacked}
use Rattle.circulation.proofs.laying.pack.Given as goal

abbrev pub invariant-loop-arc : goal.invariant-loop-arc
invariant-loop-arc l = ArePacked l.ends l.pairs l.arc
