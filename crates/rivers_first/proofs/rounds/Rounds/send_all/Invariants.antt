use Rattle.std.proofs.Common.{ℕ, ◌≡◌, ◌<◌, ◌≤◌, List, get_or}
use Rattle.rivers_first.specs.Sent.{IsSent, IsRelievedIfDown}
use Rattle.rivers_first.proofs.rounds.Rounds.send_all.Given as goal

abbrev pub invariant-loop-at : goal.invariant-loop-at
invariant-loop-at l = record {
  same : l.self ≡ l.fn.self;
  sent : IsSent l.fn.self.basin l.fn.self.kept l.fn.flow l.flow;
  relieved : (d : List ℕ) (k : ℕ) → k < l.at →
      IsRelievedIfDown l.fn.self.basin l.fn.self.kept l.fn.flow l.flow (get_or l.fn.self.rounds k d);
  few : l.count ≤ l.at;
}
