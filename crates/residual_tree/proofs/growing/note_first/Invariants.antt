use Rattle.std.proofs.Common.{◌≡◌, length}
use Rattle.residual_tree.proofs.growing.note_first.Given as goal

abbrev pub invariant-loop-at : goal.invariant-loop-at
invariant-loop-at l = length l.depth ≡ length l.fn.depth
