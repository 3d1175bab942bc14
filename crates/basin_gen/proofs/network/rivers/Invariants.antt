use Rattle.std.proofs.Common.{◌≡◌}
use Rattle.basin_gen.specs.Draws.{later, list_of}
use Rattle.basin_gen.specs.Entries.{river_at}
use Rattle.basin_gen.proofs.network.rivers.Given as goal

abbrev pub invariant-loop-i : goal.invariant-loop-i
invariant-loop-i l =
    (l.rivers.items ≡ list_of l.i (λ i. river_at l.size i (later l.fn.draws.state i)))
    × (l.draws.state ≡ later l.fn.draws.state l.i)
