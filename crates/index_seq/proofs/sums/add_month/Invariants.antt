use Rattle.std.proofs.Common.{◌≡◌, ◌+◌, ◌<◌, ◌≤◌, ℕ, length}
use Rattle.std.specs.Prelude.{slice_index}
use Rattle.index_seq.proofs.sums.add_month.Given as goal

abbrev pub invariant-loop-right : goal.invariant-loop-right
invariant-loop-right l = record {
  count : length l.year ≡ length l.fn.year;
  done : (r : ℕ) → r < l.right → slice_index l.year r ≡ slice_index l.fn.year r + slice_index l.month.delivered r;
  others : (r : ℕ) → l.right ≤ r → slice_index l.year r ≡ slice_index l.fn.year r;
}
