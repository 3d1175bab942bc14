-- What the bytes of a command's files are.
use Rattle.std.specs.Prelude.{◌≡◌, ℕ, ◌<◌, ◌≤◌, List, length, Option, Some, None}
use Rattle.std.specs.Option.{option_and_then}
use Rattle.basin_tree.specs.declared.walk.Finding.{Finding}
use Rattle.basin_file.specs.BasinFaults.{Spells, file_fault}
use Rattle.inflow_file.specs.SeriesFaults.{series_fault, SpellsSeries}
use Rattle.water_model.specs.Valid.{IsSeriesOf, IsValidBasin}
use Rattle.water_model.specs.declared.types.Basin.{Basin}
use Rattle.water_model.specs.declared.types.Series.{Series}
use Rattle.water_model.specs.declared.types.MonthRecord.{MonthRecord}
use Rattle.basin_cli.specs.declared.ending.SeriesFinding.{SeriesFinding}
use Rattle.basin_cli.specs.Ending.{finding_of}
use Rattle.basin_cli.specs.Header.{header}
use Rattle.basin_cli.specs.Headline.{KeepsPriority}

-- the most bytes of a file that is read whole
abbrev pub file_limit : ℕ
file_limit = 67108864

pub record IsTooLong (bytes : List ℕ) : Type 0 where
  pub beyond : file_limit < length bytes

-- the bytes of a basin file are within the limit and nothing in them is at fault
pub record IsGoodBasin (bytes : List ℕ) : Type 0 where
  pub within : length bytes ≤ file_limit
  pub sound : file_fault bytes ≡ None

-- the bytes are within the limit and this is the first fault in them
pub record IsRefusedFor (finding : Finding) (bytes : List ℕ) : Type 0 where
  pub within : length bytes ≤ file_limit
  pub first : file_fault bytes ≡ Some finding

-- the bytes of a series file are within the limit and nothing in them is at fault, for the basin that other bytes spell
pub record IsGoodSeries (basin_bytes bytes : List ℕ) : Type 0 where
  pub basin : Basin
  pub spelled : Spells basin_bytes basin
  pub within : length bytes ≤ file_limit
  pub sound : series_fault basin bytes ≡ None

-- the bytes are within the limit and this is the first fault in them
pub record IsSeriesRefusedFor (finding : SeriesFinding) (basin_bytes bytes : List ℕ) : Type 0 where
  pub basin : Basin
  pub spelled : Spells basin_bytes basin
  pub within : length bytes ≤ file_limit
  pub first : option_and_then (finding_of basin) (series_fault basin bytes) ≡ Some finding

-- the basin and the series that bytes spell, both valid
pub record AreSpelled (bytes series_bytes : List ℕ) (basin : Basin) (series : Series) : Type 0 where
  pub basin_spelled : Spells bytes basin
  pub series_spelled : SpellsSeries basin series_bytes series
  pub valid : IsValidBasin basin
  pub fits : IsSeriesOf basin series

-- bytes spell a basin of which this holds
pub record OfBasin (bytes : List ℕ) (P : Basin → Type 0) : Type 0 where
  pub basin : Basin
  pub spelled : Spells bytes basin
  pub holds : P basin

-- bytes spell a basin and a series of which this holds
pub record OfSpelled (bytes series_bytes : List ℕ) (P : Basin → Series → Type 0) : Type 0 where
  pub basin : Basin
  pub series : Series
  pub spelled : AreSpelled bytes series_bytes basin series
  pub holds : P basin series

-- what is known of a shelf under a name
abbrev pub KnownFiles : Type 0
KnownFiles = List ℕ → Option (List ℕ)

-- the bytes of a series. Without a file they are the header of the table alone
abbrev pub known_series : KnownFiles → Option (List ℕ) → Option (List ℕ)
known_series known None = Some header
known_series known (Some name) = known name

-- the basin and series that bytes spell, and records of a run of them
pub record IsRunOf (bytes series_bytes : List ℕ) (basin : Basin) (records : List MonthRecord) : Type 0 where
  pub series : Series
  pub spelled : AreSpelled bytes series_bytes basin series
  pub keeps : KeepsPriority basin series records
