use Rattle.std.proofs.Common.{◌≡◌, ℕ, ◌<◌, length, slice_index}
use Rattle.senior_hold.specs.MonthNetwork.{take_arc, right_arc}
use Rattle.senior_hold.proofs.arcs.right_arcs.Given as goal

abbrev pub invariant-loop-right : goal.invariant-loop-right
invariant-loop-right l = record {
  next : l.next ≡ take_arc l.basin l.right;
  count : length l.arcs.items ≡ l.right;
  each : (r : ℕ) → r < l.right → slice_index l.arcs.items r ≡ right_arc l.basin r;
}
