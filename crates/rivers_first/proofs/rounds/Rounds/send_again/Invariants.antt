use Rattle.rivers_first.specs.Sent.{IsSent}
use Rattle.rivers_first.proofs.rounds.Rounds.send_again.Given as goal

abbrev pub invariant-loop-place : goal.invariant-loop-place
invariant-loop-place l = IsSent l.self.basin l.self.kept l.fn.flow l.flow
