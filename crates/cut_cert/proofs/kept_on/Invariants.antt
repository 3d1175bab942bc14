use Rattle.std.proofs.Common.{◌-◌, length}
use Rattle.std.specs.Prelude.{unwrap_or}
use Rattle.cut_cert.proofs.Chain.{IsKeptSoFar}
use Rattle.cut_cert.proofs.kept_on.Given as goal

abbrev pub invariant-loop-next : goal.invariant-loop-next
invariant-loop-next l = IsKeptSoFar l.basin l.delivered l.right l.link l.kept l.next

abbrev pub decreases-loop-next : goal.decreases-loop-next
decreases-loop-next l = length l.basin.rights - unwrap_or l.next (length l.basin.rights)
