use Rattle.std.proofs.Common.{◌≡◌, ◌*◌, [], length}
use Rattle.residual_tree.specs.Repair.{no_step, IsGrowing}
use Rattle.residual_tree.proofs.growing.label_in_order.Given as goal

abbrev pub invariant-loop-place : goal.invariant-loop-place
invariant-loop-place l = record {
  tree : IsGrowing l.circ (no_step l.circ) l.labels [] l.queue 0 0 0 l.count;
  depth : length l.depth ≡ 2 * l.circ.nodes;
}
