use Rattle.std.proofs.Common.{◌≡◌, ◌+◌, ◌*◌}
use Rattle.basin_gen.specs.Draws.{later, list_of}
use Rattle.basin_gen.specs.Entries.{reservoir_at}
use Rattle.basin_gen.proofs.reservoirs.reservoirs.Given as goal

abbrev pub invariant-loop-j : goal.invariant-loop-j
invariant-loop-j l =
    (l.reservoirs.items ≡ list_of l.j (λ j. reservoir_at (40 * j + 20) (later l.fn.draws.state (2 * j))))
    × (l.draws.state ≡ later l.fn.draws.state (2 * l.j))
