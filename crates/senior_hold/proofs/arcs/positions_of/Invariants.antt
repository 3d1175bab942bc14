use Rattle.std.proofs.Common.{◌≡◌, ℕ, ◌<◌, length, slice_index}
use Rattle.std.specs.Prelude.{slice_get, Some}
use Rattle.senior_hold.specs.Arcs.{position_of}
use Rattle.senior_hold.proofs.arcs.positions_of.Given as goal

abbrev pub invariant-loop-place : goal.invariant-loop-place
invariant-loop-place l = record {
  count : length l.positions.items ≡ l.place;
  each : (k : ℕ) → k < l.place → slice_get l.positions.items k ≡ Some (position_of l.basin (slice_index l.order k));
}
