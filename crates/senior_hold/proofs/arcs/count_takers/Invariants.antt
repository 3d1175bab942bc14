use Rattle.std.proofs.Common.{◌≡◌}
use Rattle.finite_sums.specs.Sums.{count_where}
use Rattle.senior_hold.specs.MonthNetwork.{takes}
use Rattle.senior_hold.proofs.arcs.count_takers.Given as goal

abbrev pub invariant-loop-right : goal.invariant-loop-right
invariant-loop-right l = l.count ≡ count_where l.right (λ r. takes l.basin r)
