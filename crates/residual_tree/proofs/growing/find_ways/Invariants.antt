use Rattle.std.proofs.Common.{ℕ, ◌<◌, slice_index}
use Rattle.residual_tree.specs.Repair.{IsFoundLabel}
use Rattle.residual_tree.proofs.growing.find_ways.Given as goal

abbrev pub invariant-loop-at : goal.invariant-loop-at
invariant-loop-at l = (k : ℕ) → k < l.at → IsFoundLabel l.circ l.labels (slice_index l.freed k) (slice_index l.found k)
