use Rattle.std.proofs.Common.{◌≡◌, take}
use Rattle.cert_check.specs.Keeping.{callers_of}
use Rattle.cert_check.proofs.answering.next_due.Given as goal

abbrev pub invariant-loop-position : goal.invariant-loop-position
invariant-loop-position l =
    callers_of l.basin l.month (take l.position l.order) ≡ callers_of l.basin l.month (take l.from l.order)
