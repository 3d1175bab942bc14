use Rattle.std.proofs.Common.{ℕ, ◌<◌}
use Rattle.rivers_first.specs.Rounds.{GoesOn}
use Rattle.rivers_first.proofs.checked.is_round.Given as goal

abbrev pub invariant-loop-at : goal.invariant-loop-at
invariant-loop-at l = (at : ℕ) → at < l.at → GoesOn l.basin l.round at
