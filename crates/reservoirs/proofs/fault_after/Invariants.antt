use Rattle.std.proofs.Common.{◌≡◌, ◌+◌, drop}
use Rattle.reservoirs.specs.AreaFaults.{fault_after}
use Rattle.reservoirs.proofs.fault_after.Given as goal

abbrev pub invariant-loop-i : goal.invariant-loop-i
invariant-loop-i l = fault_after l.before (l.i + 1) (drop l.i l.rest) ≡ fault_after l.fn.first 1 l.rest
