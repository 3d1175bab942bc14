use Rattle.std.proofs.Common.{◌<◌, ◌≤◌, ℕ, slice_index}
use Rattle.water_model.specs.Plans.{carry_of}
use Rattle.draw_course.proofs.checking.are_carried.Given as goal

abbrev pub invariant-loop-link : goal.invariant-loop-link
invariant-loop-link l = (e : ℕ) → e < l.link →
    (slice_index l.held e ≤ slice_index l.flow e) × (slice_index l.flow e ≤ carry_of l.basin l.month e)
