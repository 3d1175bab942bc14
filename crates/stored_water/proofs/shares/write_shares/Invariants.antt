use Rattle.std.proofs.Common.{◌≡◌, ℕ, ◌<◌, length, slice_index}
use Rattle.finite_sums.specs.Sums.{total}
use Rattle.water_model.specs.Shares.{share}
use Rattle.stored_water.proofs.shares.write_shares.Given as goal

abbrev pub invariant-loop-i : goal.invariant-loop-i
invariant-loop-i l = record {
  count : length l.parts ≡ length l.weights;
  amount : l.shares.amount ≡ l.fn.amount;
  all : l.shares.all ≡ total (length l.weights) (λ k. slice_index l.weights k);
  before : l.shares.before ≡ total l.i (λ k. slice_index l.weights k);
  each : (k : ℕ) → k < l.i →
      slice_index l.parts k ≡ share (length l.weights) l.fn.amount (λ j. slice_index l.weights j) k;
}
