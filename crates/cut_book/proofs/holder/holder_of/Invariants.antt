use Rattle.std.proofs.Common.{◌-◌, length}
use Rattle.std.specs.Prelude.{unwrap_or}
use Rattle.cut_book.proofs.Holding.{IsHeldSoFar}
use Rattle.cut_book.proofs.holder.holder_of.Given as goal

abbrev pub invariant-loop-next : goal.invariant-loop-next
invariant-loop-next l = IsHeldSoFar l.shortage.basin l.shortage.month.delivered l.link l.amount l.holder l.next

abbrev pub decreases-loop-next : goal.decreases-loop-next
decreases-loop-next l = length l.shortage.basin.rights - unwrap_or l.next (length l.shortage.basin.rights)
