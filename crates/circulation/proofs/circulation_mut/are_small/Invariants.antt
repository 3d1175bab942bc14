use Rattle.std.proofs.Common.{ℕ, ◌^◌, ◌<◌, ◌≤◌, slice_index}
use Rattle.circulation.proofs.circulation_mut.are_small.Given as goal

abbrev pub invariant-loop-most : goal.invariant-loop-most
invariant-loop-most l = (a : ℕ) → a < l.most-index → slice_index l.upper a ≤ 10 ^ 15
