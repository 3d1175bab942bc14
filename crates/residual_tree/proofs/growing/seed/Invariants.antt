use Rattle.residual_tree.proofs.Seeds.{IsSeeding}
use Rattle.residual_tree.proofs.growing.seed.Given as goal

abbrev pub invariant-loop-at : goal.invariant-loop-at
invariant-loop-at l = IsSeeding l.circ l.fn.labels l.labels l.freed l.queue l.found l.at l.count l.size
