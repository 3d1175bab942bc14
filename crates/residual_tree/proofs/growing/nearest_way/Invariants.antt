use Rattle.std.proofs.Common.{ℕ, ◌≡◌, ◌+◌}
use Rattle.residual_tree.specs.Repair.{IsWayIn}
use Rattle.residual_tree.proofs.growing.nearest_way.Given as goal

abbrev pub invariant-loop-place : goal.invariant-loop-place
invariant-loop-place l = (s : ℕ) → l.word ≡ s + 1 → IsWayIn l.circ l.labels l.node s
