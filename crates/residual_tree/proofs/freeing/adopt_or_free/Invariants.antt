use Rattle.residual_tree.specs.Repair.{IsFreeing}
use Rattle.residual_tree.proofs.freeing.adopt_or_free.Given as goal

abbrev pub invariant-loop-at : goal.invariant-loop-at
invariant-loop-at l = IsFreeing l.circ l.labels l.freed l.at l.last 0 l.size
