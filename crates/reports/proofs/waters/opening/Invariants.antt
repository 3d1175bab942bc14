use Rattle.std.proofs.Common.{◌≡◌, take}
use Rattle.std.specs.Prelude.{sum_by}
use Rattle.reports.proofs.waters.opening.Given as goal

abbrev pub invariant-loop-reservoir : goal.invariant-loop-reservoir
invariant-loop-reservoir l = l.sum ≡ sum_by (λ v. v.opening) (take l.reservoir-index l.reservoir-items)
