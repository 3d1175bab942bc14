use Rattle.std.proofs.Common.{ℕ, ◌<◌, ◌≤◌, length, slice_index}
use Rattle.circulation.proofs.circulation_mut.are_within.Given as goal

abbrev pub invariant-loop-amount : goal.invariant-loop-amount
invariant-loop-amount l = (a : ℕ) → a < length l.yielded → slice_index l.amounts a ≤ slice_index l.upper a
