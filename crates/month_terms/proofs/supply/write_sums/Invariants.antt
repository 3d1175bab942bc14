use Rattle.std.proofs.Common.{ℕ, ◌≡◌, ◌+◌, ◌<◌, slice_index}
use Rattle.month_terms.proofs.supply.write_sums.Given as goal

abbrev pub invariant-loop-position : goal.invariant-loop-position
invariant-loop-position l = (n : ℕ) → n < l.position →
    slice_index l.sums n ≡ slice_index l.first n + slice_index l.second n
