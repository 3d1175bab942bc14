use Rattle.std.proofs.Common.{ℕ, ◌≢◌, ◌+◌}
use Rattle.circulation.specs.Contents.{network}
use Rattle.circulation.specs.Residual.{end_of}
use Rattle.residual_tree.specs.Tree.{label_of}
use Rattle.circulation.proofs.Scans.{IsScan}
use Rattle.residual_tree.proofs.Frees.{IsOrphaning}
use Rattle.residual_tree.proofs.freeing.free_children.Given as goal

abbrev pub invariant-loop-place : goal.invariant-loop-place
invariant-loop-place l = record {
  state : (at : ℕ) × IsOrphaning l.circ l.labels l.freed at l.done l.count l.node;
  scan : IsScan l.circ l.node l.place (λ s. label_of l.labels (end_of (network l.circ) s) ≢ s + 1);
}
