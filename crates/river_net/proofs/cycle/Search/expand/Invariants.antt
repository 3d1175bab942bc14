use Rattle.std.proofs.Common.{◌-◌, length, slice_index}
use Rattle.std.specs.Prelude.{unwrap_or}
use Rattle.river_net.specs.Search.{IsExpanding}
use Rattle.river_net.proofs.cycle.Search.expand.Given as goal

abbrev pub invariant-loop-next : goal.invariant-loop-next
invariant-loop-next l =
    IsExpanding l.graph l.start l.self.seen.items l.self.queue.items l.done
    (slice_index l.initial.self.queue.items l.done) l.next

abbrev pub decreases-loop-next : goal.decreases-loop-next
decreases-loop-next l = length l.graph.links - unwrap_or l.next (length l.graph.links)
