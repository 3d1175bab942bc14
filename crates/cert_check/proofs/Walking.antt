-- Walks over the rights in the order of seniority, one index further.
use Rattle.std.proofs.Common.{◌≡◌, ℕ, ◌+◌, arith}
use Rattle.std.specs.Prelude.{Option, None}
use Rattle.finite_sums.specs.Sums.{total_where}
use Rattle.finite_sums.proofs.Totals.{total_more}
use Rattle.water_model.specs.Basin.{is_at}

-- a sum over one more index, whose key is none
pub none_more : {n : ℕ} (k : ℕ) (key : ℕ → Option ℕ) (f : ℕ → ℕ) {sum : ℕ} (base : ℕ) → key n ≡ None →
    sum ≡ base + total_where n (λ v. is_at (key v) k) f → sum ≡ base + total_where (n + 1) (λ v. is_at (key v) k) f
none_more {n} k key f base e h = grind (arith, total_more, is_at)
