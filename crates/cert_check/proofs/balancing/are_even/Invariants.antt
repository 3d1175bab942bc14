use Rattle.std.proofs.Common.{ℕ, ◌≡◌, ◌+◌, ◌<◌, true, slice_index}
use Rattle.std.specs.Prelude.{◌==◌, slice_set}
use Rattle.cert_check.proofs.balancing.are_even.Given as goal

abbrev pub invariant-loop-node : goal.invariant-loop-node
invariant-loop-node l = (n : ℕ) → n < l.node →
    slice_index l.into n == slice_index l.out_of n + slice_index (slice_set l.out l.at l.amount) n ≡ true
