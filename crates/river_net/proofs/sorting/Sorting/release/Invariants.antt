use Rattle.std.proofs.Common.{◌-◌, length, slice_index}
use Rattle.std.specs.Prelude.{unwrap_or}
use Rattle.river_net.specs.Sorting.{IsReleasing}
use Rattle.river_net.proofs.sorting.Sorting.release.Given as goal

abbrev pub invariant-loop-next : goal.invariant-loop-next
invariant-loop-next l =
    IsReleasing l.graph l.self.order.items l.self.waits.items l.done (slice_index l.initial.self.order.items l.done)
    l.next

abbrev pub decreases-loop-next : goal.decreases-loop-next
decreases-loop-next l = length l.graph.links - unwrap_or l.next (length l.graph.links)
