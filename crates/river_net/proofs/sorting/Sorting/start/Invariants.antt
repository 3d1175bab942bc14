use Rattle.river_net.specs.Sorting.{HasSources}
use Rattle.river_net.proofs.sorting.Sorting.start.Given as goal

abbrev pub invariant-loop-node : goal.invariant-loop-node
invariant-loop-node l = HasSources l.graph l.order.items l.waits.items l.node
