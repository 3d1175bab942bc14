-- What return rows bring.
use Rattle.std.proofs.Common.{◌≡◌, ℕ, zero, suc, ◌+◌, ◌-◌, ◌*◌, ◌/◌, ◌<◌, ◌≤◌, Bool, true, false, refl, ap, arith, List}
use Rattle.std.proofs.Common.{length}
use Rattle.std.proofs.lemmas.Bool.{eqb-true}
use Rattle.std.proofs.Math.Nat.{mul-div-le}
use Rattle.std.specs.Prelude.{if◌then◌else◌, ◌==◌}
use Rattle.finite_sums.specs.Sums.{total}
use Rattle.water_model.specs.Lookups.{of_entry}
use Rattle.water_model.specs.Hydrology.{returned_by, delivered_before, delivered_in}
use Rattle.water_model.specs.Valid.{IsValidReturn}
use Rattle.duality.specs.Balance.{ReturnsAreCovered, returned_before}
use Rattle.water_model.specs.declared.types.ReturnRow.{ReturnRow}
use Rattle.finite_sums.proofs.Totals.{total_grows}
use Rattle.water_model.proofs.Valid.{entry_holds}

-- what a row brought by the end of n months of deliveries
brought : ReturnRow → List (List ℕ) → ℕ → ℕ
brought row deliveries n = row.part * delivered_before deliveries row.right n / 10000

quotient_grows : (p x y : ℕ) → x ≤ y → p * x / 10000 ≤ p * y / 10000
quotient_grows p x y h = grind arith

brought_grows : (row : ReturnRow) (deliveries : List (List ℕ)) (m n : ℕ) → m ≤ n →
    brought row deliveries m ≤ brought row deliveries n
unfolding brought
brought_grows row deliveries m n h =
    quotient_grows row.part (delivered_before deliveries row.right m) (delivered_before deliveries row.right n)
    (total_grows m n (λ k. delivered_in deliveries row.right k) h)

brought_same : (row : ReturnRow) (deliveries : List (List ℕ)) (m n : ℕ) → m ≡ n →
    brought row deliveries m ≡ brought row deliveries n
brought_same row deliveries m n e = ap (brought row deliveries) e

arrives : (row : ReturnRow) (deliveries : List (List ℕ)) (n : ℕ) →
    returned_by row deliveries n + brought row deliveries (n - row.lag) ≡ brought row deliveries (n + 1 - row.lag)
unfolding brought
arrives row deliveries n =
    omega (arith, brought_grows row deliveries (n - row.lag) (n + 1 - row.lag) (omega arith))

-- the months' arrivals telescope
telescope : (row : ReturnRow) (deliveries : List (List ℕ)) (n : ℕ) →
    total n (λ j. returned_by row deliveries j) + brought row deliveries 0 ≡ brought row deliveries (n - row.lag)
unfolding total
telescope row deliveries zero = omega (arith, brought_same row deliveries 0 (0 - row.lag) (omega arith))
telescope row deliveries (suc n) =
    omega (
      arith,
      telescope row deliveries n,
      arrives row deliveries n,
      brought_same row deliveries (n + 1 - row.lag) (suc n - row.lag) (omega arith),
    )

brought_none : (row : ReturnRow) (deliveries : List (List ℕ)) → brought row deliveries 0 ≡ 0
unfolding brought total
brought_none row deliveries = omega arith

brought_part : (row : ReturnRow) (deliveries : List (List ℕ)) (n : ℕ) →
    10000 * brought row deliveries n ≤ row.part * delivered_before deliveries row.right n
unfolding brought
brought_part row deliveries n = mul-div-le (row.part * delivered_before deliveries row.right n) 10000

-- the rows of a diversion, by the sum of their parts
rows_bring : (d : ℕ) (n : ℕ) (p f : ℕ → ℕ) → ((k : ℕ) → k < n → 10000 * f k ≤ p k * d) →
    10000 * total n f ≤ total n p * d
unfolding total
rows_bring d zero p f h = omega arith
rows_bring d (suc n) p f h = omega (arith, rows_bring d n p f (λ k l. h k (omega arith)), h n (omega arith))

pub covered : ReturnsAreCovered
covered b deliveries right i valid in_range =
    at_most (total (length b.returns) part) (returned_before b deliveries right (i + 1))
    (delivered_before deliveries right i)
    (valid.roll.parts right in_range)
    (rows_bring (delivered_before deliveries right i) (length b.returns) part share bound)
  where
    part : ℕ → ℕ
    part k = of_entry b.returns k (λ row. if row.right == right then row.part else 0) 0

    share : ℕ → ℕ
    share k =
        of_entry b.returns k
        (λ row. if row.right == right then total (i + 1) (λ j. returned_by row deliveries j) else 0) 0

    at_most : (p x d : ℕ) → p ≤ 10000 → 10000 * x ≤ p * d → x ≤ d
    at_most p x d h l = grind arith

    bound : (k : ℕ) → k < length b.returns → 10000 * share k ≤ part k * delivered_before deliveries right i
    bound k l =
        let found = entry_holds (λ row. IsValidReturn b row) b.returns k valid.returns l in
        rw found.1 (one found.0 found.2.lag.0 (found.0.right == right) (eqb-true found.0.right right))
      where
        one : (row : ReturnRow) → 1 ≤ row.lag → (t : Bool) → (t ≡ true → row.right ≡ right) →
            10000 * (if t then total (i + 1) (λ j. returned_by row deliveries j) else 0) ≤ (if t then row.part else 0) *
            delivered_before deliveries right i
        one row lag false e = omega arith
        one row lag true e =
            rw (← e refl)
            (omega (
              arith,
              telescope row deliveries (i + 1),
              brought_none row deliveries,
              brought_grows row deliveries (i + 1 - row.lag) i (omega arith),
              brought_part row deliveries i,
            ))
