use Rattle.std.proofs.Common.{◌-◌}
use Rattle.river_net.specs.Sorting.{IsReleased}
use Rattle.river_net.proofs.sorting.sort.Given as goal

abbrev pub invariant-loop-done : goal.invariant-loop-done
invariant-loop-done l = IsReleased l.graph l.sorting.order.items l.sorting.waits.items l.done

abbrev pub decreases-loop-done : goal.decreases-loop-done
decreases-loop-done l = l.graph.nodes - l.done
