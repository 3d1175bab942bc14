use Rattle.std.proofs.Common.{◌≡◌, slice_index}
use Rattle.finite_sums.specs.Sums.{total}
use Rattle.stored_water.proofs.shares.sum_of.Given as goal

abbrev pub invariant-loop-i : goal.invariant-loop-i
invariant-loop-i l = l.all ≡ total l.i (λ k. slice_index l.weights k)
