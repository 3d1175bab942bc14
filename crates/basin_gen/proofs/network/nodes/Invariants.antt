use Rattle.std.proofs.Common.{◌≡◌}
use Rattle.basin_gen.specs.Draws.{later, list_of}
use Rattle.basin_gen.specs.Entries.{node_at}
use Rattle.basin_gen.specs.Generator.{draws_of_nodes}
use Rattle.basin_gen.proofs.network.nodes.Given as goal

abbrev pub invariant-loop-i : goal.invariant-loop-i
invariant-loop-i l =
    (l.nodes.items ≡ list_of l.i (λ i. node_at l.size i (later l.fn.draws.state (draws_of_nodes i))))
    × (l.draws.state ≡ later l.fn.draws.state (draws_of_nodes l.i))
