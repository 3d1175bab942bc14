use Rattle.std.proofs.Common.{◌≡◌, ◌*◌, ◌++◌}
use Rattle.basin_gen.specs.Draws.{later, list_of}
use Rattle.basin_gen.specs.Entries.{zone_at}
use Rattle.basin_gen.proofs.reservoirs.add_zones.Given as goal

abbrev pub invariant-loop-j : goal.invariant-loop-j
invariant-loop-j l =
    (l.rights.items ≡ l.fn.rights.items ++ list_of (2 * l.j) (λ z. zone_at z (later l.fn.draws.state z)))
    × (l.draws.state ≡ later l.fn.draws.state (2 * l.j))
