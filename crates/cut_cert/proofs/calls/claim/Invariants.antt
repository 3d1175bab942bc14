use Rattle.std.proofs.Common.{◌≤◌}
use Rattle.cut_cert.proofs.Claims.{IsClaimed}
use Rattle.cut_cert.proofs.calls.claim.Given as goal

abbrev pub invariant-loop-turn : goal.invariant-loop-turn
invariant-loop-turn l = record {
  turns : l._turn ≤ l.from;
  within : l.from ≤ l.nodes;
  claimed : IsClaimed l.nodes l.right l.from l.set l.fn.callers l.callers l.fn.free l.free;
}
