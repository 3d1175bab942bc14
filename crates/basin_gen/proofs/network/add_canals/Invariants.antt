use Rattle.std.proofs.Common.{◌≡◌, ◌+◌, ◌*◌, ◌++◌}
use Rattle.basin_gen.specs.Draws.{later, list_of}
use Rattle.basin_gen.specs.Entries.{canal_at}
use Rattle.basin_gen.proofs.network.add_canals.Given as goal

abbrev pub invariant-loop-j : goal.invariant-loop-j
invariant-loop-j l =
    (l.links.items ≡ l.fn.links.items ++ list_of l.j
    (λ j. canal_at l.size (4 * j + 1) (later l.fn.draws.state (2 * j))))
    × (l.draws.state ≡ later l.fn.draws.state (2 * l.j))
