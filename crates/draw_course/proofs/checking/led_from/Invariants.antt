use Rattle.std.proofs.Common.{◌≡◌, ◌*◌, ◌≤◌, ◌^◌, slice_index}
use Rattle.std.specs.Prelude.{◌==◌}
use Rattle.finite_sums.specs.Sums.{total_where}
use Rattle.water_model.specs.Basin.{tail_of}
use Rattle.draw_course.proofs.checking.led_from.Given as goal

abbrev pub invariant-loop-place : goal.invariant-loop-place
invariant-loop-place l = record {
  sum : l.sum ≡ total_where l.place (λ e. tail_of l.basin e == l.node) (slice_index l.flow);
  small : l.sum ≤ l.place * 2 ^ 64;
}
