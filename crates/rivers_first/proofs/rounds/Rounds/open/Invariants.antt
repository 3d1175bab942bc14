use Rattle.std.proofs.Common.{All}
use Rattle.rivers_first.specs.Rounds.{IsRound}
use Rattle.rivers_first.proofs.rounds.Rounds.open.Given as goal

abbrev pub invariant-loop-place : goal.invariant-loop-place
invariant-loop-place l = All (IsRound l.basin) l.rounds.items
