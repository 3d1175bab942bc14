use Rattle.std.proofs.Common.{◌≡◌, map}
use lib.Seq.{paste}
use Rattle.month_terms.proofs.opening.write_openings.Given as goal

abbrev pub invariant-loop-reservoir : goal.invariant-loop-reservoir
invariant-loop-reservoir l =
    l.stored ≡ paste l.fn.stored 0 (map (λ v. v.opening) l.basin.reservoirs) l.reservoir
