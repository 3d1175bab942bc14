-- How a report may end.
use Rattle.std.specs.Prelude.{ℕ, ◌≤◌, List, length, take, ⊤, Result, Ok, Err}
use Rattle.water_edge.specs.Edge.{Extends, Output}
use Rattle.water_model.specs.History.{HaveReaches, IsHistory}
use Rattle.water_model.specs.declared.types.Basin.{Basin}
use Rattle.water_model.specs.declared.types.Series.{Series}
use Rattle.water_model.specs.declared.types.MonthRecord.{MonthRecord}
use Rattle.reports.specs.Figures.{AreBalanced, waters_of}
use Rattle.reports.specs.declared.stop.ReportStop.{ReportStop}
use Rattle.reports.specs.declared.stop.ReportStop.TheVariants as stop

-- the records of a whole run, with the reaches as the sets of short rights; no water is made or lost
pub record IsRun (b : Basin) (series : Series) (records : List MonthRecord) : Type 0 where
  pub history : IsHistory b series records
  pub reaches : HaveReaches b records
  pub balanced : AreBalanced (waters_of b series records)

-- the text of a run is appended, or after a failure of the sink a prefix of it
abbrev pub Reports : (List MonthRecord → List ℕ) → Basin → Series → Result (Unit {0}) ReportStop → Output →
    Output → Type 0
Reports text b series (Ok _) old new =
    (records : List MonthRecord) × IsRun b series records × Extends old new (text records)
Reports text b series (Err stop.SinkFailed) old new =
    (records : List MonthRecord) × IsRun b series records
    × ((count : ℕ) × (count ≤ length (text records)) × Extends old new (take count (text records)))
Reports text b series (Err stop.OutOfMemory) old new = ⊤
