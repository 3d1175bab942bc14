use Rattle.std.proofs.Common.{◌≡◌, ℕ, ◌<◌, ◌^◌, slice_index}
use Rattle.finite_sums.specs.Sums.{when}
use Rattle.water_model.specs.Basin.{is_outlet}
use Rattle.water_model.specs.Plans.{carry_of}
use Rattle.draw_course.specs.Arcs.{amount_at}
use Rattle.draw_course.proofs.amounts.write_bounds.Given as goal

abbrev pub invariant-loop-arc : goal.invariant-loop-arc
invariant-loop-arc l = (a : ℕ) → a < l.arc → slice_index l.upper a
    ≡ amount_at l.basin (carry_of l.basin l.month) (slice_index l.taken)
    (λ n. when (is_outlet l.basin n) (10 ^ 15)) (λ k. 0) a
