-- The return rows of a valid basin.
use Rattle.std.proofs.Common.{◌≡◌, ◌∙◌, ℕ, zero, suc, ◌+◌, ◌-◌, ◌*◌, ◌/◌, ◌^◌, ◌<◌, ◌≤◌, false, List, [], ◌∷◌}
use Rattle.std.proofs.Common.{length, get_or, refl, ap, arith, inl, inr}
use Rattle.std.specs.Prelude.{All, if◌then◌else◌, ◌==◌, nat_lt, option_map, unwrap_or, slice_get, Some}
use Rattle.std.proofs.lemmas.Bool.{cases_Bool, ltb-true, ltb-false}
use Rattle.std.proofs.Math.Nat.{mul-add}
use Rattle.finite_sums.specs.Sums.{total}
use Rattle.finite_sums.proofs.Totals.{total_exchange, total_at, total_more, total_most, total_same}
use Rattle.finite_sums.proofs.Counts.{at_inside, total_ones}
use Rattle.water_model.specs.Hydrology.{delivered_in, delivered_before, returned_by}
use Rattle.water_model.specs.Lookups.{of_entry}
use Rattle.water_model.specs.Valid.{IsValidBasin, IsValidReturn, rows_of}
use Rattle.water_model.specs.declared.types.Basin.{Basin}
use Rattle.water_model.specs.declared.types.ReturnRow.{ReturnRow}
use Rattle.water_model.proofs.Valid.{entry_holds}
use Rattle.lag_returns.specs.Laws.{ArrivalsAreReturns, ValidRowsAreLagged, ReturnsAreSmall}

pub arrivals_are_returns : ArrivalsAreReturns
arrivals_are_returns b deliveries node = refl

-- each row is a row of one right, and a right has at most 8
bounded_rows : (b : Basin) → IsValidBasin b → length b.returns ≤ 8 * length b.rights
bounded_rows b valid =
    omega (
      arith,
      total_most (length b.rights) 8 (λ r. rows_of b r) valid.bounded.rows,
      total_exchange (length b.rights) (length b.returns) (λ r k. is_row r k),
      total_same (length b.returns) (λ k. total (length b.rights) (λ r. is_row r k)) (λ k. 1) one,
      total_ones (length b.returns),
    )
  where
    is_row : ℕ → ℕ → ℕ
    is_row r k = if of_entry b.returns k (λ row. row.right == r) false then 1 else 0

    of_found : (k : ℕ) → (row : ReturnRow) × (slice_get b.returns k ≡ Some row) × IsValidReturn b row →
        total (length b.rights) (λ r. is_row r k) ≡ 1
    of_found k found =
        ap (λ o. total (length b.rights)
        (λ r. if unwrap_or (option_map (λ (row : ReturnRow). row.right == r) o) false then 1 else 0)) found.1
        ∙ total_at (length b.rights) found.0.right 1 ∙ at_inside found.0.right (length b.rights) 1 found.2.right

    one : (k : ℕ) → k < length b.returns → total (length b.rights) (λ r. is_row r k) ≡ 1
    one k l = of_found k (entry_holds (λ row. IsValidReturn b row) b.returns k valid.returns l)

pub valid_rows : ValidRowsAreLagged
valid_rows b valid = record {
  lagged = λ k d l. let row = valid.returns k d l in record { part = row.part; lag = row.lag };
  nodes = λ k d l. let row = valid.returns k d l in row.node;
  rights = λ k d l. let row = valid.returns k d l in row.right;
  bounded = let bounded = bounded_rows b valid in let rights = valid.bounded.rights in omega arith;
}

-- a month more of at most 10^9 brings at most 10^9 more
brings_at_most : (p d x y : ℕ) → p ≤ 10000 → d ≤ 10 ^ 9 → x ≡ y + d → p * x / 10000 - p * y / 10000 ≤ 10 ^ 9
brings_at_most p d x y part small e = rw (e, mul-add) (within (p * y) (p * d) (product p d part small))
  where
    product : (p d : ℕ) → p ≤ 10000 → d ≤ 10 ^ 9 → p * d ≤ 10000 * 10 ^ 9
    product p d l m = grind arith

    within : (x y : ℕ) → y ≤ 10000 * 10 ^ 9 → (x + y) / 10000 - x / 10000 ≤ 10 ^ 9
    within x y l = omega arith

small_at : (xs : List ℕ) (i : ℕ) → All (λ n. n ≤ 10 ^ 9) xs → get_or xs i 0 ≤ 10 ^ 9
small_at [] i h = omega arith
small_at (x ∷ xs) zero h = h 0 0 (omega arith)
small_at (x ∷ xs) (suc i) h = small_at xs i (λ k d l. h (suc k) d (omega arith))

small_delivery : (deliveries : List (List ℕ)) (right j : ℕ) →
    All (λ delivered. All (λ n. n ≤ 10 ^ 9) delivered) deliveries → delivered_in deliveries right j ≤ 10 ^ 9
small_delivery [] right j h = omega arith
small_delivery (delivered ∷ deliveries) right zero h = small_at delivered right (h 0 delivered (omega arith))
small_delivery (delivered ∷ deliveries) right (suc j) h =
    small_delivery deliveries right j (λ k d l. h (suc k) d (omega arith))

row_brings : (row : ReturnRow) (deliveries : List (List ℕ)) (i : ℕ) → row.part ≤ 10000 →
    All (λ delivered. All (λ n. n ≤ 10 ^ 9) delivered) deliveries → returned_by row deliveries i ≤ 10 ^ 9
row_brings row deliveries i part small = elim (cases_Bool (nat_lt i row.lag)) [
  | inl early ↦
      brings_at_most row.part 0 (before (i + 1 - row.lag)) (before (i - row.lag)) part (omega arith)
      (none (ltb-true i row.lag early))
  | inr late ↦
      brings_at_most row.part (delivered_in deliveries row.right (i - row.lag)) (before (i + 1 - row.lag))
      (before (i - row.lag)) part
      (small_delivery deliveries row.right (i - row.lag) small) (one (ltb-false i row.lag late))
]
  where
    before : ℕ → ℕ
    before n = delivered_before deliveries row.right n

    none : i < row.lag → before (i + 1 - row.lag) ≡ before (i - row.lag) + 0
    none l =
        let e : i + 1 - row.lag ≡ i - row.lag = omega arith in
        omega (arith, ap (delivered_before deliveries row.right) e)

    one : row.lag ≤ i →
        before (i + 1 - row.lag) ≡ before (i - row.lag) + delivered_in deliveries row.right (i - row.lag)
    one l =
        let e : i + 1 - row.lag ≡ i - row.lag + 1 = omega arith in
        ap (delivered_before deliveries row.right) e
        ∙ total_more (i - row.lag) (λ k. delivered_in deliveries row.right k)

pub returns_are_small : ReturnsAreSmall
returns_are_small b deliveries i valid small =
    omega (
      arith,
      total_exchange (length b.nodes) (length b.returns) at_node,
      total_most (length b.returns) (10 ^ 9) (λ k. total (length b.nodes) (λ node. at_node node k))
          (λ k l. little k (entry_holds (λ row. IsValidReturn b row) b.returns k valid.returns l)),
    )
  where
    at_node : ℕ → ℕ → ℕ
    at_node node k = of_entry b.returns k (λ row. if row.node == node then returned_by row deliveries i else 0) 0

    little : (k : ℕ) → (row : ReturnRow) × (slice_get b.returns k ≡ Some row) × IsValidReturn b row →
        total (length b.nodes) (λ node. at_node node k) ≤ 10 ^ 9
    little k found =
        let e = ap (λ o. total (length b.nodes) (λ node. unwrap_or
        (option_map (λ (row : ReturnRow). if row.node == node then returned_by row deliveries i else 0) o) 0))
        found.1 in
        omega (
          arith,
          e,
          total_at (length b.nodes) found.0.node (returned_by found.0 deliveries i),
          at_inside found.0.node (length b.nodes) (returned_by found.0 deliveries i) found.2.node,
          row_brings found.0 deliveries i found.2.part.1 small,
        )
