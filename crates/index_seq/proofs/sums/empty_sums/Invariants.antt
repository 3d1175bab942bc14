use Rattle.std.proofs.Common.{◌≡◌, ℕ, [], length}
use Rattle.std.specs.Prelude.{slice_index_or}
use Rattle.index_seq.proofs.sums.empty_sums.Given as goal

abbrev pub invariant-loop-right : goal.invariant-loop-right
invariant-loop-right l = record {
  count : length l.sums.items ≡ l._right;
  empty : (r : ℕ) → slice_index_or l.sums.items r [] ≡ [];
}
