use Rattle.river_net.specs.Sorting.{AreEntering}
use Rattle.river_net.proofs.graph.count_entering.Given as goal

abbrev pub invariant-loop-link : goal.invariant-loop-link
invariant-loop-link l = AreEntering (record { nodes = l.nodes; links = l.links }) l.link-index l.counts.items
