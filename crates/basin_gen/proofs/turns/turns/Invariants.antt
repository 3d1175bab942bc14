use Rattle.std.proofs.Common.{◌≡◌}
use Rattle.basin_gen.specs.Draws.{later}
use Rattle.basin_gen.specs.Generator.{draws_of_turns}
use Rattle.basin_gen.proofs.TurnLaws.{AreMade}
use Rattle.basin_gen.proofs.turns.turns.Given as goal

abbrev pub invariant-loop-k : goal.invariant-loop-k
invariant-loop-k l =
    AreMade l.size l.fn.draws.state l.k l.made.diversions.items l.made.instreams.items l.made.returns.items
    × (l.draws.state ≡ later l.fn.draws.state (draws_of_turns l.k))
