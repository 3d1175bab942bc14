use Rattle.std.proofs.Common.{ℕ, ◌≡◌, ◌<◌, [], length, Some}
use Rattle.std.specs.Prelude.{slice_get}
use Rattle.reports.specs.Tallies.{figures_of}
use Rattle.reports.proofs.tally.first_figures.Given as goal

abbrev pub invariant-loop-right : goal.invariant-loop-right
invariant-loop-right l = record {
  count : length l.rights.items ≡ l._right;
  each : (right : ℕ) → right < l._right → slice_get l.rights.items right ≡ Some (figures_of [] right);
}
