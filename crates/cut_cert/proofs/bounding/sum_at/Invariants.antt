use Rattle.std.proofs.Common.{◌-◌, length}
use Rattle.std.specs.Prelude.{unwrap_or}
use Rattle.cut_cert.proofs.RowSums.{IsRowSum}
use Rattle.cut_cert.proofs.bounding.sum_at.Given as goal

abbrev pub invariant-loop-next : goal.invariant-loop-next
invariant-loop-next g l = IsRowSum l.rows l.node (goal.F-post g l.term) l.sum l.next

abbrev pub decreases-loop-next : goal.decreases-loop-next
decreases-loop-next g l = length l.rows.next.items - unwrap_or l.next (length l.rows.next.items)
