use Rattle.std.proofs.Common.{ℕ, ◌≡◌, ◌+◌, ◌<◌, ◌≤◌, slice_index}
use Rattle.std.specs.Prelude.{is_some, if◌then◌else◌}
use Rattle.water_model.specs.Hydrology.{volume_of}
use Rattle.month_terms.proofs.used.add_deliveries.Given as goal

abbrev pub invariant-loop-right : goal.invariant-loop-right
invariant-loop-right l = record {
  done : (r : ℕ) → r < l.right → slice_index l.used r
      ≡ slice_index l.fn.used r + (if is_some (volume_of l.basin r) then slice_index l.delivered r else 0);
  rest : (r : ℕ) → l.right ≤ r → slice_index l.used r ≡ slice_index l.fn.used r;
}
