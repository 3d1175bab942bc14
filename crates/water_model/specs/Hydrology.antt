-- Inflow, evaporation, returns, supply and want.
use Rattle.std.specs.Prelude.{ℕ, ◌+◌, ◌-◌, ◌*◌, ◌/◌, min, List, [], ◌∷◌, length, slice_index, Option, Some, None, Bool}
use Rattle.std.specs.Prelude.{◌==◌, nat_lt, if◌then◌else◌}
use Rattle.std.specs.List.{position_or_len}
use Rattle.finite_sums.specs.Sums.{total, total_where}
use Rattle.water_model.specs.Lookups.{of_entry}
use Rattle.water_model.specs.Basin.{node_of_reservoir, instream_link, is_at}
use Rattle.water_text.specs.Months.{month_after}
use Rattle.water_model.specs.Plans.{carry_of}
use Rattle.water_text.specs.declared.month.Month.{Month}
use Rattle.water_model.specs.declared.types.AreaPoint.{AreaPoint}
use Rattle.water_model.specs.declared.types.Basin.{Basin}
use Rattle.water_model.specs.declared.types.Inflow.{Inflow}
use Rattle.water_model.specs.declared.types.Inflow.TheVariants.{Monthly, Gauged}
use Rattle.water_model.specs.declared.types.Series.{Series}
use Rattle.water_model.specs.declared.types.ReturnRow.{ReturnRow}
use Rattle.water_model.specs.declared.types.Want.{Want}
use Rattle.water_model.specs.declared.types.Want.TheVariants as wants

-- the month with index i of the run, and its index in a list of twelve
abbrev pub run_month : Basin → ℕ → Month
run_month b i = month_after b.first i

abbrev pub in_year : Basin → ℕ → ℕ
in_year b i = (run_month b i).month - 1

-- months in a row have numbers in a row
abbrev pub month_number : Month → ℕ
month_number m = 12 * m.year + m.month

-- the index of a month in the run, if it is one of its months
abbrev pub index_in_run : Basin → Month → Option ℕ
index_in_run b m =
    if nat_lt (month_number m) (month_number b.first) then None
    else (if nat_lt (month_number m - month_number b.first) b.months then Some (month_number m - month_number b.first)
    else None)

-- the index of a number in a list of numbers
abbrev pub index_in : List ℕ → ℕ → ℕ
index_in xs n = position_or_len (λ x. x == n) xs

-- the cell of a key in row i of a table with one column for each of the keys
abbrev pub table_at : List ℕ → List ℕ → ℕ → ℕ → ℕ
table_at keys cells i key = slice_index cells (i * length keys + index_in keys key)

-- the inflow of a node: the series' amount of a gauged node, and else the amount of the calendar month
abbrev pub inflow_of_kind : Basin → Series → ℕ → ℕ → Inflow → ℕ
inflow_of_kind b series node i (Monthly amounts) = slice_index amounts (in_year b i)
inflow_of_kind b series node i Gauged = table_at series.gauged series.amount i node

abbrev pub inflow_at : Basin → Series → ℕ → ℕ → ℕ
inflow_at b series node i = of_entry b.nodes node (λ n. inflow_of_kind b series node i n.inflow) 0

-- the area at a storage: between two points by interpolation, rounded down, and beyond the last point its area
abbrev pub area_from : AreaPoint → List AreaPoint → ℕ → ℕ
area_from p [] storage = p.area
area_from p (q ∷ points) storage =
    if nat_lt storage q.storage
    then p.area + (storage - p.storage) * (q.area - p.area) / (q.storage - p.storage)
    else area_from q points storage

abbrev pub area_at : List AreaPoint → ℕ → ℕ
area_at [] storage = 0
area_at (p ∷ points) storage = area_from p points storage

abbrev pub evaporation : List AreaPoint → ℕ → ℕ → ℕ
evaporation points storage rate = min storage (rate * area_at points storage / 100)

-- what a right was delivered in month j, by the months' deliveries, and in all months before month j
abbrev pub delivered_in : List (List ℕ) → ℕ → ℕ → ℕ
delivered_in deliveries right j = of_entry deliveries j (λ delivered. slice_index delivered right) 0

abbrev pub delivered_before : List (List ℕ) → ℕ → ℕ → ℕ
delivered_before deliveries right j = total j (λ k. delivered_in deliveries right k)

-- what a return row brings in month i: its part of what was delivered up to `lag` months before, in whole units,
-- less what it brought by the month before. There are no deliveries before the run
abbrev pub returned_by : ReturnRow → List (List ℕ) → ℕ → ℕ
returned_by row deliveries i =
    row.part * delivered_before deliveries row.right (i + 1 - row.lag) / 10000
    - row.part * delivered_before deliveries row.right (i - row.lag) / 10000

abbrev pub returned_at : Basin → List (List ℕ) → ℕ → ℕ → ℕ
returned_at b deliveries node i =
    total (length b.returns)
    (λ k. of_entry b.returns k (λ row. if row.node == node then returned_by row deliveries i else 0) 0)

-- what the reservoirs at a node hold after evaporation
abbrev pub stored_at : Basin → List ℕ → List ℕ → ℕ → ℕ
stored_at b opening evaporated node =
    total_where (length b.reservoirs) (λ v. is_at (node_of_reservoir b v) node)
    (λ v. slice_index opening v - slice_index evaporated v)

-- the target of a right: its number for the month, and on a canal at most what the canal carries
abbrev pub number_of : Basin → Series → ℕ → ℕ → Want → ℕ
number_of b series right i (wants.Monthly amounts) = slice_index amounts (in_year b i)
number_of b series right i wants.Series = table_at series.wanted series.want i right

abbrev pub number_in : Basin → Series → ℕ → ℕ → ℕ
number_in b series i right = of_entry b.rights right (λ r. number_of b series right i r.want) 0

abbrev pub cap_by_link : Basin → Month → Option ℕ → ℕ → ℕ
cap_by_link b month None number = number
cap_by_link b month (Some link) number = min number (carry_of b month link)

abbrev pub target_of : Basin → Series → ℕ → ℕ → ℕ
target_of b series right i =
    cap_by_link b (run_month b i) (instream_link b right) (number_in b series i right)

-- the water year of a month, counted from year 0
abbrev pub water_year : Basin → ℕ → ℕ
water_year b i = let m = run_month b i in if nat_lt m.month b.year_start then m.year else m.year + 1

-- whether a water year begins with a month
abbrev pub begins_year : Basin → ℕ → Bool
begins_year b i = (run_month b i).month == b.year_start

-- what a right with a volume used before month i in its water year, and 0 for every other right
abbrev pub used_in_year : Basin → List (List ℕ) → ℕ → ℕ → ℕ
used_in_year b deliveries right i =
    total_where i (λ j. water_year b j == water_year b i) (λ j. delivered_in deliveries right j)

abbrev pub used_by_volume : Option ℕ → ℕ → ℕ
used_by_volume None used = 0
used_by_volume (Some volume) used = used

abbrev pub used_of : Basin → List (List ℕ) → ℕ → ℕ → ℕ
used_of b deliveries right i =
    of_entry b.rights right (λ r. used_by_volume r.volume (used_in_year b deliveries right i)) 0

-- the want: the target, and with a volume at most what is left of it
abbrev pub want_by_volume : Option ℕ → ℕ → ℕ → ℕ
want_by_volume None target used = target
want_by_volume (Some volume) target used = min target (volume - used)

abbrev pub volume_of : Basin → ℕ → Option ℕ
volume_of b right = of_entry b.rights right (λ r. r.volume) None

abbrev pub want_of : Basin → Series → ℕ → ℕ → ℕ → ℕ
want_of b series right i used = want_by_volume (volume_of b right) (target_of b series right i) used
