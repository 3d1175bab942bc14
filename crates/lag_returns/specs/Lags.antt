-- Deliveries in transit back to the river.
use Rattle.std.specs.Prelude.{◌≡◌, ℕ, ◌-◌, ◌*◌, ◌%◌, ◌<◌, ◌≤◌, List, length, map, slice_index, All, ◌==◌, if◌then◌else◌}
use Rattle.circular_buffer.specs.Buffer.{keep_last}
use Rattle.finite_sums.specs.Sums.{total}
use Rattle.water_model.specs.Hydrology.{delivered_before, returned_at, returned_by}
use Rattle.water_model.specs.Lookups.{of_entry}
use Rattle.water_model.specs.declared.types.Basin.{Basin}
use Rattle.water_model.specs.declared.types.ReturnRow.{ReturnRow}

-- a return row, the deliveries of its diversion that are on their way, the oldest first, and what the row's part of
-- those before them had beyond whole units, in parts of 10,000
pub record InTransit : Type 0 where
  pub row : ReturnRow
  pub waiting : List ℕ
  pub remainder : ℕ

-- the return rows alone
abbrev pub return_rows : List InTransit → List ReturnRow
return_rows lags = map (λ w. w.row) lags

-- the bounds of a row's part and lag
pub record IsLagged (row : ReturnRow) : Type 0 where
  pub part : (1 ≤ row.part) × (row.part ≤ 10000)
  pub lag : (1 ≤ row.lag) × (row.lag ≤ 120)

-- what each month delivered to a right
abbrev pub delivered_to : List (List ℕ) → ℕ → List ℕ
delivered_to deliveries right = map (λ delivered. slice_index delivered right) deliveries

-- the last deliveries are on their way, as many as the lag has months, and those before them left the remainder
pub record IsInTransit (deliveries : List (List ℕ)) (w : InTransit) : Type 0 where
  pub waiting : w.waiting ≡ keep_last w.row.lag (delivered_to deliveries w.row.right)
  pub remainder : w.remainder ≡ (w.row.part * delivered_before deliveries w.row.right (length deliveries - w.row.lag)) %
      10000

-- these rows, after months with these deliveries, each a list by right
pub record LagsStandFor (lags : List InTransit) (rows : List ReturnRow) (deliveries : List (List ℕ)) : Type 0 where
  pub of_rows : return_rows lags ≡ rows
  pub each : All (IsInTransit deliveries) lags

-- what return rows bring to a node in the month after these: the sum over the rows at the node
abbrev pub arrivals_at : List ReturnRow → List (List ℕ) → ℕ → ℕ
arrivals_at rows deliveries node =
    total (length rows)
    (λ k. of_entry rows k (λ row. if row.node == node then returned_by row deliveries (length deliveries) else 0) 0)

-- what comes back to each node, by the deliveries of the months before
pub record HasReturned (b : Basin) (deliveries : List (List ℕ)) (returned : List ℕ) : Type 0 where
  pub count : length returned ≡ length b.nodes
  pub each : (n : ℕ) → n < length b.nodes → slice_index returned n ≡ returned_at b deliveries n (length deliveries)
