use Rattle.std.proofs.Common.{All}
use Rattle.rivers_first.specs.Rounds.{IsRound}
use Rattle.rivers_first.proofs.search.Search.add_rounds.Given as goal

abbrev pub invariant-loop : goal.invariant-loop
invariant-loop l = All (IsRound l.basin) l.rounds.items
