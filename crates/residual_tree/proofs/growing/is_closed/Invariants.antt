use Rattle.std.proofs.Common.{ℕ, ◌≡◌, ◌<◌}
use Rattle.residual_tree.specs.Tree.{label_of}
use Rattle.residual_tree.specs.Repair.{IsWayIn}
use Rattle.residual_tree.proofs.growing.is_closed.Given as goal

abbrev pub invariant-loop-node : goal.invariant-loop-node
invariant-loop-node l = (v : ℕ) → v < l.node → label_of l.labels v ≡ 0 → (s : ℕ) → ¬ IsWayIn l.circ l.labels v s
