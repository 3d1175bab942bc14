use Rattle.std.proofs.Common.{◌≡◌, ◌*◌, ◌≤◌, ◌^◌, slice_index}
use Rattle.finite_sums.specs.Sums.{total}
use Rattle.draw_course.proofs.checking.are_little.Given as goal

abbrev pub invariant-loop-place : goal.invariant-loop-place
invariant-loop-place l = record {
  sum : l.sum ≡ total l.place (λ n. slice_index l.amounts n);
  small : l.sum ≤ l.place * 2 ^ 64;
}
