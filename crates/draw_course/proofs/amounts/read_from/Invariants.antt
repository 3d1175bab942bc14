use Rattle.std.proofs.Common.{◌≡◌, ℕ, ◌+◌, ◌<◌, slice_index}
use Rattle.circulation.specs.Contents.{flow_of}
use Rattle.draw_course.proofs.amounts.read_from.Given as goal

abbrev pub invariant-loop-place : goal.invariant-loop-place
invariant-loop-place l = (i : ℕ) → i < l.place → slice_index l.into i ≡ flow_of l.circ (l.first + i)
