-- What the files of a command are accepted for, and how reading them may end.
use Rattle.std.specs.Prelude.{◌≡◌, ℕ, ◌≤◌, List, length, Option, Some, None, ⊤, IfSome, IsSome}
use Rattle.std.specs.Option.{option_and_then}
use Rattle.basin_file.specs.BasinFaults.{Spells, file_fault}
use Rattle.inflow_file.specs.SeriesFaults.{series_fault, SpellsSeries}
use Rattle.water_model.specs.declared.types.Basin.{Basin}
use Rattle.water_model.specs.declared.types.Series.{Series}
use Rattle.basin_cli.specs.declared.ending.Ending.{Ending}
use Rattle.basin_cli.specs.declared.ending.Ending.TheVariants as ending
use Rattle.basin_cli.specs.declared.ending.File.{File}
use Rattle.basin_cli.specs.declared.ending.File.TheVariants as file
use Rattle.basin_cli.specs.Command.{Files}
use Rattle.basin_cli.specs.Ending.{finding_of}
use Rattle.basin_cli.specs.Bytes.{IsTooLong, IsGoodBasin, IsRefusedFor, KnownFiles, file_limit, known_series}

-- how the reading of a file may end without its bytes
abbrev pub FileEnds : File → Option (List ℕ) → Type 0 → Ending → Type 0
FileEnds file known read (ending.ReadFault named) = (named ≡ file) × read
FileEnds file known read (ending.InputTooLong named) = (named ≡ file) × IfSome known IsTooLong
FileEnds file known read ending.OutOfMemory = ⊤
FileEnds file known read other = ⊥

-- how a basin's bytes may be refused
abbrev pub BasinEnds : List ℕ → Ending → Type 0
BasinEnds bytes (ending.BasinRefused finding) = file_fault bytes ≡ Some finding
BasinEnds bytes ending.OutOfMemory = ⊤
BasinEnds bytes other = ⊥

-- how the reading of a basin may end, where its bytes are known or not
abbrev pub BasinReadEnds : Option (List ℕ) → Type 0 → Ending → Type 0
BasinReadEnds known read (ending.BasinRefused finding) = IfSome known (IsRefusedFor finding)
BasinReadEnds known read (ending.ReadFault file.Basin) = read
BasinReadEnds known read (ending.InputTooLong file.Basin) = IfSome known IsTooLong
BasinReadEnds known read ending.OutOfMemory = ⊤
BasinReadEnds known read other = ⊥

-- how the bytes of a basin's series may be refused
abbrev pub SeriesEnds : Basin → List ℕ → Ending → Type 0
SeriesEnds b bytes (ending.SeriesRefused finding) = option_and_then (finding_of b) (series_fault b bytes) ≡ Some finding
SeriesEnds b bytes ending.OutOfMemory = ⊤
SeriesEnds b bytes other = ⊥

-- the bytes are within the limit, and spell the basin
pub record IsBasinText (b : Basin) (bytes : List ℕ) : Type 0 where
  pub good : IsGoodBasin bytes
  pub spelled : Spells bytes b

-- the bytes are within the limit, and spell the series of the basin
pub record IsSeriesText (b : Basin) (series : Series) (bytes : List ℕ) : Type 0 where
  pub within : length bytes ≤ file_limit
  pub sound : series_fault b bytes ≡ None
  pub spelled : SpellsSeries b bytes series

-- how the reading of a series may end, where its bytes are known or not. Without a file it is the header alone, and no
-- reading fails
abbrev pub SeriesReadEnds : Basin → Option (List ℕ) → Option (List ℕ) → Type 0 → Ending → Type 0
SeriesReadEnds b name known read (ending.SeriesRefused finding) =
    IfSome known (λ bytes. (length bytes ≤ file_limit) ×
    (option_and_then (finding_of b) (series_fault b bytes) ≡ Some finding))
SeriesReadEnds b name known read (ending.ReadFault file.Series) = read × IsSome name
SeriesReadEnds b name known read (ending.InputTooLong file.Series) = IfSome known IsTooLong
SeriesReadEnds b name known read ending.OutOfMemory = ⊤
SeriesReadEnds b name known read other = ⊥

-- the basin and the series are what the known bytes of the files spell
pub record AreLoaded (known : KnownFiles) (files : Files) (b : Basin) (series : Series) : Type 0 where
  pub from_basin : IfSome (known files.basin) (IsBasinText b)
  pub from_series : IfSome (known_series known files.series) (IsSeriesText b series)
