use Rattle.circulation.proofs.Scans.{IsScan}
use Rattle.residual_tree.proofs.Grows.{IsTried}
use Rattle.residual_tree.proofs.Outgoing.{IsOutgoing}
use Rattle.residual_tree.proofs.growing.spread_out.Given as goal

abbrev pub invariant-loop-place : goal.invariant-loop-place
invariant-loop-place l = record {
  state : IsOutgoing l.circ l.labels l.queue l.count;
  scan : IsScan l.circ l.circ.nodes l.place (IsTried l.circ l.labels);
}
