-- What a record of a series says.
use Rattle.std.specs.Prelude.{ℕ, ◌^◌, List, [], ◌∷◌, codes, Option, Some, None, Result, Ok, Err, if◌then◌else◌}
use Rattle.std.specs.Str.{bytes_eq}
use Rattle.basin_names.specs.Named.{node_named, right_named}
use Rattle.water_text.specs.Amounts.{read_amount}
use Rattle.water_text.specs.Months.{IsMonth, read_month}
use Rattle.water_model.specs.Valid.{is_gauged, is_in_series}
use Rattle.water_model.specs.declared.types.Basin.{Basin}
use Rattle.inflow_file.specs.Columns.{IsColumn, right_number}
use Rattle.inflow_file.specs.declared.entry.SeriesRecord.{SeriesRecord}
use Rattle.inflow_file.specs.declared.refused.SeriesFault.{SeriesFault}
use Rattle.inflow_file.specs.declared.refused.SeriesFault.TheVariants as fault

-- what is made of a value, or the fault where there is none
abbrev pub need : {X Y : Type 0} → SeriesFault → Option X → (X → Result Y SeriesFault) → Result Y SeriesFault
need fault None next = Err fault
need fault (Some x) next = next x

-- what is made of what was found, or the fault that was
abbrev pub go_on : {X Y : Type 0} → Result X SeriesFault → (X → Result Y SeriesFault) → Result Y SeriesFault
go_on (Err fault) next = Err fault
go_on (Ok x) next = next x

-- the number of the gauged node, or of the right whose wants stand in the series, that a name names
abbrev pub gauge_of : Basin → List ℕ → Result ℕ SeriesFault
gauge_of b name =
    need fault.NoSuchNode (node_named b name) (λ node. if is_gauged b node then Ok node else Err fault.NotGauged)

abbrev pub wanted_of : Basin → List ℕ → Result ℕ SeriesFault
wanted_of b name =
    need fault.NoSuchRight (right_named b name)
    (λ right. if is_in_series b right then Ok (right_number b right) else Err fault.NotSeries)

abbrev pub column_of : Basin → List ℕ → List ℕ → Result ℕ SeriesFault
column_of b kind name =
    if bytes_eq kind (codes "inflow") then gauge_of b name
    else (if bytes_eq kind (codes "want") then wanted_of b name else Err fault.BadKind)

-- what a record with its kind says, or the first fault that it has by itself
unfoldable pub read_record : Basin → List (List ℕ) → Result SeriesRecord SeriesFault
read_record b (month ∷ kind ∷ name ∷ amount ∷ []) =
    need fault.BadMonth (read_month month) (λ m.
    go_on (column_of b kind name) (λ n.
    need fault.BadAmount (read_amount amount (10 ^ 9)) (λ a. Ok (record { month = m; column = n; amount = a }))))
read_record b _ = Err fault.Csv

-- the month is one that there is, and the column is one: so it is with every entry that is read
pub record IsEntry (b : Basin) (e : SeriesRecord) : Type 0 where
  pub month : IsMonth e.month
  pub column : IsColumn b e.column
