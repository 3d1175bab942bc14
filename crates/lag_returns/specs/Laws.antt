-- What users of return rows may rely on.
use Rattle.std.specs.Prelude.{◌≡◌, ℕ, ◌*◌, ◌^◌, ◌<◌, ◌≤◌, List, length, All}
use Rattle.finite_sums.specs.Sums.{total}
use Rattle.water_model.specs.Hydrology.{returned_at}
use Rattle.water_model.specs.Valid.{IsValidBasin}
use Rattle.water_model.specs.declared.types.Basin.{Basin}
use Rattle.lag_returns.specs.Lags.{IsLagged, arrivals_at}

-- The return rows of a basin bring what the definition of a month's returns says.
abbrev pub ArrivalsAreReturns : Type 0
ArrivalsAreReturns =
    (b : Basin) (deliveries : List (List ℕ)) (node : ℕ) →
    arrivals_at b.returns deliveries node ≡ returned_at b deliveries node (length deliveries)

-- the return rows of a basin have their numbers, nodes and rights in range, and are few
pub record HasLaggedRows (b : Basin) : Type 0 where
  pub lagged : All IsLagged b.returns
  pub nodes : All (λ row. row.node < length b.nodes) b.returns
  pub rights : All (λ row. row.right < length b.rights) b.returns
  pub bounded : length b.returns ≤ 16000

abbrev pub ValidRowsAreLagged : Type 0
ValidRowsAreLagged = (b : Basin) → IsValidBasin b → HasLaggedRows b

-- In a month the returns of a valid basin sum to at most 10^9 for each row, where no right was ever delivered more.
abbrev pub ReturnsAreSmall : Type 0
ReturnsAreSmall =
    (b : Basin) (deliveries : List (List ℕ)) (i : ℕ) → IsValidBasin b →
    All (λ delivered. All (λ n. n ≤ 10 ^ 9) delivered) deliveries →
    total (length b.nodes) (λ node. returned_at b deliveries node i) ≤ 10 ^ 9 * length b.returns
