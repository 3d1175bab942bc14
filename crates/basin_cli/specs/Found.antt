-- What the bytes of a basin file, a series and a result are found to be, without shelves and statuses; and what a run
-- is for a check.
use Rattle.std.specs.Prelude.{◌≡◌, ℕ, List, Some, None, ⊤}
use Rattle.basin_file.specs.BasinFaults.{Spells, file_fault}
use Rattle.basin_tree.specs.declared.walk.Finding.{Finding}
use Rattle.inflow_file.specs.SeriesFaults.{series_fault}
use Rattle.inflow_file.specs.declared.refused.SeriesRefused.{SeriesRefused}
use Rattle.result_lines.specs.Text.{text_bytes}
use Rattle.water_model.specs.declared.types.Basin.{Basin}
use Rattle.water_model.specs.declared.types.Series.{Series}
use Rattle.water_model.specs.declared.types.MonthRecord.{MonthRecord}
use Rattle.basin_cli.specs.Bytes.{AreSpelled, IsRunOf}
use Rattle.basin_cli.specs.Outcome.{IsHistoryText, IsReachesText}
use Rattle.basin_cli.specs.declared.ending.Ending.{Ending}
use Rattle.basin_cli.specs.declared.ending.Ending.TheVariants as ending
use Rattle.basin_cli.specs.declared.found.Found.{Found}
use Rattle.basin_cli.specs.declared.found.Found.TheVariants as found

-- the first fault of a basin file
abbrev pub IsFaultyBasin : List ℕ → Type 0
IsFaultyBasin bytes = (finding : Finding) × (file_fault bytes ≡ Some finding)

-- the first fault of a series, for the basin that a file without a fault spells
pub record IsFaultySeries (bytes series_bytes : List ℕ) : Type 0 where
  pub basin_sound : file_fault bytes ≡ None
  pub basin : Basin
  pub spelled : Spells bytes basin
  pub why : SeriesRefused
  pub first : series_fault basin series_bytes ≡ Some why

-- nothing is at fault in a basin file, nor in a series for the basin that it spells
pub record AreFaultless (bytes series_bytes : List ℕ) : Type 0 where
  pub basin_sound : file_fault bytes ≡ None
  pub basin : Basin
  pub series : Series
  pub spelled : AreSpelled bytes series_bytes basin series
  pub series_sound : series_fault basin series_bytes ≡ None

-- What is found is so: a yes or a no, that nothing is at fault in the basin file and the series, and that the bytes of
-- the result are the text of a history of both, or of none; a refusal, which of the two is at fault. Want of memory
-- says nothing.
abbrev pub IsFound : Found → List ℕ → List ℕ → List ℕ → Type 0
IsFound found.Accepted bytes series_bytes result = AreFaultless bytes series_bytes ×
    IsHistoryText bytes series_bytes result
IsFound found.Refuted bytes series_bytes result = AreFaultless bytes series_bytes ×
    (IsHistoryText bytes series_bytes result → ⊥)
IsFound found.BasinRefused bytes series_bytes result = IsFaultyBasin bytes
IsFound found.SeriesRefused bytes series_bytes result = IsFaultySeries bytes series_bytes
IsFound found.OutOfMemory bytes series_bytes result = ⊤

-- what is found where the reading of a basin or a series ended this way
abbrev pub refusal : Ending → Found
refusal (ending.BasinRefused finding) = found.BasinRefused
refusal (ending.SeriesRefused finding) = found.SeriesRefused
refusal how = found.OutOfMemory

-- The text of a run is accepted: whatever `run` writes of a basin and a series is the text of a history of both.
abbrev pub RunsAreAccepted : Type 0
RunsAreAccepted =
    (bytes series_bytes : List ℕ) (basin : Basin) (records : List MonthRecord) →
    IsRunOf bytes series_bytes basin records → IsHistoryText bytes series_bytes (text_bytes basin records)

-- The text of a run is audited: the sets that `run` writes are the reaches.
abbrev pub RunsAreAudited : Type 0
RunsAreAudited =
    (bytes series_bytes : List ℕ) (basin : Basin) (records : List MonthRecord) →
    IsRunOf bytes series_bytes basin records → IsReachesText bytes series_bytes (text_bytes basin records)
