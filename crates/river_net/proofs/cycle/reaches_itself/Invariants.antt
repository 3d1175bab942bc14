use Rattle.std.proofs.Common.{◌-◌}
use Rattle.river_net.specs.Search.{IsExpanded}
use Rattle.river_net.proofs.cycle.reaches_itself.Given as goal

abbrev pub invariant-loop-done : goal.invariant-loop-done
invariant-loop-done l = IsExpanded l.graph l.node l.search.seen.items l.search.queue.items l.done

abbrev pub decreases-loop-done : goal.decreases-loop-done
decreases-loop-done l = l.graph.nodes - l.done
