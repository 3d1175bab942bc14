-- The faults of a series, and what a series without a fault spells.
use Rattle.std.specs.Prelude.{◌≡◌, ℕ, ◌+◌, ◌-◌, ◌<◌, ◌==◌, nat_lt, ◌&&◌, ◌||◌, not, List, [], ◌∷◌, ◌++◌, length, map}
use Rattle.std.specs.Prelude.{Bool, true, Option, Some, None, is_some, option_map, Result, Ok, Err, if◌then◌else◌, ⊤}
use Rattle.std.specs.List.{find, filter_map, flat_map, list_any, range_with_len}
use Rattle.std.specs.Option.{option_or}
use Rattle.std.specs.Result.{result_ok}
use Rattle.water_text.specs.Months.{is_same_month}
use Rattle.water_text.specs.declared.month.Month.{Month}
use Rattle.water_model.specs.Hydrology.{run_month, inflow_at, table_at}
use Rattle.water_model.specs.Valid.{is_gauged, is_in_series}
use Rattle.water_model.specs.declared.types.Basin.{Basin}
use Rattle.water_model.specs.declared.types.Series.{Series}
use Rattle.inflow_file.specs.Columns.{column_numbers, right_number}
use Rattle.inflow_file.specs.CsvRecords.{records_of, is_header, is_kind_header, with_kind}
use Rattle.inflow_file.specs.Entries.{read_record}
use Rattle.inflow_file.specs.declared.entry.SeriesRecord.{SeriesRecord}
use Rattle.inflow_file.specs.declared.refused.SeriesFault.{SeriesFault}
use Rattle.inflow_file.specs.declared.refused.SeriesFault.TheVariants as fault
use Rattle.inflow_file.specs.declared.refused.SeriesRefused.{SeriesRefused}
use Rattle.inflow_file.specs.declared.refused.SeriesRefused.TheVariants as refused

-- the months of the run, in order
abbrev pub months_of : Basin → List Month
months_of b = map (λ i. run_month b i) (range_with_len 0 b.months)

abbrev pub is_in_run : Basin → Month → Bool
is_in_run b m = list_any (λ n. is_same_month m n) (months_of b)

-- the amount that entries give for a month and a column: that of the first entry for them
abbrev pub amount_for : List SeriesRecord → Month → ℕ → Option ℕ
amount_for entries month column =
    option_map (λ e. e.amount) (find (λ e. is_same_month month e.month && e.column == column) entries)

-- what records say, where they can be read
abbrev pub entries_of : Basin → List (List (List ℕ)) → List SeriesRecord
entries_of b rows = filter_map (λ row. result_ok (read_record b row)) rows

-- the month of the entry is in the run, and earlier entries have this month and column
abbrev pub repeats : Basin → List SeriesRecord → SeriesRecord → Bool
repeats b earlier e = is_in_run b e.month && is_some (amount_for earlier e.month e.column)

-- the fault of a record by itself, and else that earlier entries have its month and column
abbrev pub fault_after : Basin → List SeriesRecord → Result SeriesRecord SeriesFault → Option SeriesFault
fault_after b earlier (Err fault) = Some fault
fault_after b earlier (Ok e) = if repeats b earlier e then Some fault.Repeated else None

-- the first fault of a record after the header, after the records between
abbrev pub record_fault : Basin → List (List (List ℕ)) → List (List ℕ) → Option SeriesFault
record_fault b before row = fault_after b (entries_of b before) (read_record b row)

-- the first of some records that is at fault, after those before. Records count on from the number
unfoldable pub first_fault : Basin → List (List (List ℕ)) → ℕ → List (List (List ℕ)) → Option SeriesRefused
first_fault b before number [] = None
first_fault b before number (row ∷ rows) =
    option_or (option_map (λ fault. refused.Record fault number) (record_fault b before row))
    (first_fault b (before ++ row ∷ []) (number + 1) rows)

-- what a series has to give amounts for: month by month each gauged node, and each right whose wants stand in it
abbrev pub due : Basin → List (Month × ℕ)
due b = flat_map (λ month. map (λ n. (month, n)) (column_numbers b)) (months_of b)

-- the refusal for want of the amount of a month and a column
abbrev pub missing_of : Basin → Month → ℕ → SeriesRefused
missing_of b month n =
    if nat_lt n (length b.nodes) then refused.Missing month n else refused.MissingWant month (n - length b.nodes)

-- the first of these that the entries give no amount for
abbrev pub missing : Basin → List SeriesRecord → Option SeriesRefused
missing b entries =
    option_map (λ d. missing_of b d.0 d.1) (find (λ d. not (is_some (amount_for entries d.0 d.1))) (due b))

-- whether a table's header has kinds. That of a basin of format 1 never has
abbrev pub has_kinds : Basin → List (List ℕ) → Bool
has_kinds b header = b.format == 2 && is_kind_header header

-- the records after the header, each with its kind
abbrev pub body_of : Basin → List (List (List ℕ)) → List (List (List ℕ))
body_of b [] = []
body_of b (header ∷ rows) = map (with_kind (has_kinds b header)) rows

-- the first fault of a table
abbrev pub table_fault : Basin → List (List (List ℕ)) → Option SeriesRefused
table_fault b [] = Some (refused.Record fault.Header 1)
table_fault b (header ∷ rows) =
    if is_header header || has_kinds b header
    then option_or (first_fault b [] 2 (body_of b (header ∷ rows)))
    (missing b (entries_of b (body_of b (header ∷ rows))))
    else Some (refused.Record fault.Header 1)

-- the first fault of bytes, as the series of a basin
abbrev pub series_fault : Basin → List ℕ → Option SeriesRefused
series_fault b text = table_fault b (records_of text)

-- a refusal names the first fault, or says that memory ran out
abbrev pub IsRefusalOf : Option SeriesRefused → SeriesRefused → Type 0
IsRefusalOf first refused.OutOfMemory = ⊤
IsRefusalOf first e = first ≡ Some e

abbrev pub IsSeriesRefusal : SeriesRefused → Basin → List ℕ → Type 0
IsSeriesRefusal e b text = IsRefusalOf (series_fault b text) e

-- in each month of the run the inflow of each gauged node, and the want of each right in the series, is the amount that
-- the records after the header give
pub record SpellsAmounts (b : Basin) (rows : List (List (List ℕ))) (series : Series) : Type 0 where
  pub each : (node i : ℕ) → node < length b.nodes → is_gauged b node ≡ true → i < b.months →
      amount_for (entries_of b rows) (run_month b i) node ≡ Some (inflow_at b series node i)
  pub wants : (right i : ℕ) → right < length b.rights → is_in_series b right ≡ true → i < b.months →
      amount_for (entries_of b rows) (run_month b i) (right_number b right) ≡ Some
      (table_at series.wanted series.want i right)

abbrev pub SpellsSeries : Basin → List ℕ → Series → Type 0
SpellsSeries b text series = SpellsAmounts b (body_of b (records_of text)) series
