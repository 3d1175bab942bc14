use Rattle.rivers_first.proofs.Sending.{IsSending}
use Rattle.rivers_first.proofs.rounds.Rounds.push.Given as goal

abbrev pub invariant-loop-at : goal.invariant-loop-at
invariant-loop-at l = IsSending l.self.basin l.self.kept l.fn.flow l.flow l.round l.at l.amount
