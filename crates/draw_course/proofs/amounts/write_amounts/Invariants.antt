use Rattle.std.proofs.Common.{◌≡◌, ℕ, ◌<◌, slice_index}
use Rattle.draw_course.specs.Arcs.{amount_at}
use Rattle.draw_course.proofs.amounts.write_amounts.Given as goal

abbrev pub invariant-loop-arc : goal.invariant-loop-arc
invariant-loop-arc l = (a : ℕ) → a < l.arc → slice_index l.start a
    ≡ amount_at l.basin (slice_index l.flow) (slice_index l.taken) (slice_index l.out) (λ k. 0) a
