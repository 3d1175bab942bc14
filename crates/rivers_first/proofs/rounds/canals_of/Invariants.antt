use Rattle.std.proofs.Common.{◌≡◌, map, take}
use Rattle.rivers_first.specs.Rounds.{canal_of}
use Rattle.rivers_first.proofs.rounds.canals_of.Given as goal

abbrev pub invariant-loop-round : goal.invariant-loop-round
invariant-loop-round l = l.canals.items ≡ map canal_of (take l.round-index l.rounds)
