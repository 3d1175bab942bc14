use Rattle.std.proofs.Common.{◌≡◌, ◌<◌, ◌≤◌, ℕ, [], length}
use Rattle.std.specs.Prelude.{slice_index_or}
use Rattle.std.specs.List.Sorted.{IsNonDecreasingBy, IsPermutation}
use Rattle.index_seq.proofs.sums.sort_sums.Given as goal

abbrev pub invariant-loop-right : goal.invariant-loop-right
invariant-loop-right l = record {
  count : length l.sums ≡ length l.fn.sums;
  moved : (r : ℕ) → r < l.right → IsPermutation (slice_index_or l.fn.sums r []) (slice_index_or l.sums r []);
  sorted : (r : ℕ) → r < l.right → IsNonDecreasingBy (λ x. x) (slice_index_or l.sums r []);
  others : (r : ℕ) → l.right ≤ r → slice_index_or l.sums r [] ≡ slice_index_or l.fn.sums r [];
}
