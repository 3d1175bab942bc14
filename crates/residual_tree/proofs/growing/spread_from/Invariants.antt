use Rattle.std.proofs.Common.{ℕ}
use Rattle.residual_tree.specs.Tree.{IsLabeled}
use Rattle.circulation.proofs.Scans.{IsScan}
use Rattle.residual_tree.proofs.Grows.{IsSpreading, IsTried}
use Rattle.residual_tree.proofs.growing.spread_from.Given as goal

abbrev pub invariant-loop-place : goal.invariant-loop-place
invariant-loop-place g l = record {
  state : IsSpreading l.circ g.artificial l.labels l.queue l.done l.count l.node;
  more : (v : ℕ) → IsLabeled l.fn.labels v → IsLabeled l.labels v;
  scan : IsScan l.circ l.node l.place (IsTried l.circ l.labels);
}
