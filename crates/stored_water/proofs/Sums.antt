-- The sum of weights in a loop.
use Rattle.std.proofs.Common.{◌≡◌, ℕ, ◌+◌, ◌<◌, ◌≤◌, arith, List, refl, slice_index}
use Rattle.finite_sums.specs.Sums.{total}
use Rattle.finite_sums.proofs.Totals.{total_start, total_more, total_grows}
use Rattle.water_model.specs.Shares.{part, share}

pub sum_start : (xs : List ℕ) → total 0 (λ k. slice_index xs k) ≡ 0
sum_start xs = total_start (λ k. slice_index xs k)

pub sum_more : (xs : List ℕ) (i : ℕ) →
    total (i + 1) (λ k. slice_index xs k) ≡ total i (λ k. slice_index xs k) + slice_index xs i
sum_more xs i = total_more i (λ k. slice_index xs k)

pub sum_fits : (xs : List ℕ) (i n : ℕ) → i < n →
    total i (λ k. slice_index xs k) + slice_index xs i ≤ total n (λ k. slice_index xs k)
sum_fits xs i n l =
    omega (arith, sum_more xs i, total_grows (i + 1) n (λ k. slice_index xs k) (omega arith))

-- the next part is the share of its index
pub next_part : (xs : List ℕ) (n amount i k a before all : ℕ) → a ≡ amount → before ≡ total i (λ j. slice_index xs j) →
    all ≡ total n (λ j. slice_index xs j) → k ≡ i →
    part a before (slice_index xs i) all ≡ share n amount (λ j. slice_index xs j) k
next_part xs n amount i k a before all ea eb ec e = rw (ea, eb, ec, e) refl
