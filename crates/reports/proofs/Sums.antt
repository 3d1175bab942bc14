-- Sums over indices and lists, and how large they are.
use Rattle.std.proofs.Common.{ℕ, ◌+◌, ◌*◌, ◌^◌, ◌<◌, ◌≤◌, arith}
use Rattle.std.specs.Prelude.{sum_by, All}
use Rattle.std.proofs.lemmas.List.Sums.{sum_by-le}
use Rattle.finite_sums.specs.Sums.{total}
use Rattle.finite_sums.proofs.Totals.{total_more, total_grows}
use Rattle.water_model.specs.Valid.{IsValidBasin}
use Rattle.water_model.specs.declared.types.Basin.{Basin}
use Rattle.water_model.proofs.Entries.{bounded_reservoirs}

-- one term more is within the sum
pub next_fits : (k n : ℕ) (f : ℕ → ℕ) → k < n → total k f + f k ≤ total n f
next_fits k n f l = omega (arith, total_more k f, total_grows (k + 1) n f (omega arith))

-- what all reservoirs hold when the run begins
pub openings_small : (b : Basin) → IsValidBasin b → sum_by (λ v. v.opening) b.reservoirs ≤ 32 * 10 ^ 12
openings_small b valid =
    let each : All (λ v. v.opening ≤ 16000000000) b.reservoirs = λ k d l. (valid.reservoirs k d l).opening in
    omega (arith, sum_by-le (λ v. v.opening) 16000000000 b.reservoirs each, bounded_reservoirs b valid)
