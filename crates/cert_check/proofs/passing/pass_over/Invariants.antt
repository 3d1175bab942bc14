use Rattle.std.proofs.Common.{◌≡◌, false, take}
use Rattle.std.specs.List.{list_any}
use Rattle.cert_check.specs.Keeping.{lacks_call}
use Rattle.cert_check.proofs.passing.pass_over.Given as goal

abbrev pub invariant-loop-at : goal.invariant-loop-at
invariant-loop-at l = list_any (lacks_call l.month) (take l.at l.order) ≡ false
