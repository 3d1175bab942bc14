-- The water balance of a run.
use Rattle.std.specs.Prelude.{◌≡◌, ℕ, ◌+◌, ◌<◌, ◌≤◌, List, map, length, sum, sum_by, slice_index, ◌==◌, if◌then◌else◌}
use Rattle.finite_sums.specs.Sums.{total, total_where}
use Rattle.water_model.specs.Lookups.{of_entry}
use Rattle.water_model.specs.Hydrology.{inflow_at, returned_by, delivered_before}
use Rattle.water_model.specs.History.{opening_after, IsPartialHistory}
use Rattle.water_model.specs.Valid.{IsValidBasin, is_diversion}
use Rattle.water_model.specs.declared.types.Basin.{Basin}
use Rattle.water_model.specs.declared.types.Series.{Series}
use Rattle.water_model.specs.declared.types.MonthRecord.{MonthRecord}

-- the inflow to all nodes in month i
abbrev pub total_inflow : Basin → Series → ℕ → ℕ
total_inflow b series i = total (length b.nodes) (λ n. inflow_at b series n i)

-- what a record delivers to all diversions
abbrev pub diverted : Basin → MonthRecord → ℕ
diverted b m = total_where (length b.rights) (λ r. is_diversion b r) (λ r. slice_index m.delivered r)

-- what came in over the records, with what was stored before the first, is what went out, with what is stored after the
-- last
abbrev pub IsBalanced : Basin → Series → List MonthRecord → Type 0
IsBalanced b series records =
    sum (map (λ v. v.opening) b.reservoirs)
    + sum_by (λ m. total_inflow b series m.index) records
    + sum_by (λ m. sum m.returned) records
    ≡ sum (opening_after b records)
    + sum_by (λ m. sum m.evaporated) records
    + sum_by (λ m. diverted b m) records
    + sum_by (λ m. sum m.plan.out) records

-- Balance. No water is made or lost over a partial history.
abbrev pub HistoriesAreBalanced : Type 0
HistoriesAreBalanced =
    (b : Basin) (series : Series) (records : List MonthRecord) → IsValidBasin b →
    IsPartialHistory b series records → IsBalanced b series records

-- what a diversion's return rows brought in the months before month n
abbrev pub returned_before : Basin → List (List ℕ) → ℕ → ℕ → ℕ
returned_before b deliveries right n =
    total (length b.returns) (λ k. of_entry b.returns k (λ row.
    if row.right == right then total n (λ j. returned_by row deliveries j) else 0) 0)

-- Returns are covered. What a diversion's rows brought up to a month is at most what it was delivered before that
-- month.
abbrev pub ReturnsAreCovered : Type 0
ReturnsAreCovered =
    (b : Basin) (deliveries : List (List ℕ)) (right i : ℕ) → IsValidBasin b → right < length b.rights →
    returned_before b deliveries right (i + 1) ≤ delivered_before deliveries right i
