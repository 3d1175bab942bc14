use Rattle.std.proofs.Common.{◌≡◌, ◌++◌, ◌∷◌, [], ◌<◌, ◌≤◌, ℕ, length}
use Rattle.std.specs.Prelude.{slice_index, slice_index_or}
use Rattle.index_seq.proofs.sums.add_year.Given as goal

abbrev pub invariant-loop-right : goal.invariant-loop-right
invariant-loop-right l = record {
  count : length l.sums ≡ length l.fn.sums;
  done : (r : ℕ) → r < l.right →
      slice_index_or l.sums r [] ≡ slice_index_or l.fn.sums r [] ++ slice_index l.year r ∷ [];
  others : (r : ℕ) → l.right ≤ r → slice_index_or l.sums r [] ≡ slice_index_or l.fn.sums r [];
}
