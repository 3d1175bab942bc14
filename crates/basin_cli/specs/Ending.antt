-- How a call may end, and the line that it puts to err.
use Rattle.std.specs.Prelude.{ℕ, List, [], ◌++◌, codes, Option, Some, None, ⊤}
use Rattle.std.specs.Fmt.{decimal}
use Rattle.basin_tree.specs.declared.walk.Finding.{Finding}
use Rattle.basin_tree.specs.Faults.{fault_name}
use Rattle.basin_tree.specs.Tables.{table_name}
use Rattle.edit_script.specs.declared.refused.ScriptFault.{ScriptFault}
use Rattle.edit_script.specs.declared.refused.ScriptFault.TheVariants as script
use Rattle.inflow_file.specs.FaultNames as series_fault
use Rattle.inflow_file.specs.declared.refused.SeriesRefused.{SeriesRefused}
use Rattle.inflow_file.specs.declared.refused.SeriesRefused.TheVariants as refused
use Rattle.water_model.specs.Basin.{node_name, right_name}
use Rattle.water_model.specs.declared.types.Basin.{Basin}
use Rattle.water_text.specs.Months.{month_digits, IsMonth}
use Rattle.basin_cli.specs.declared.ending.File.{File}
use Rattle.basin_cli.specs.declared.ending.File.TheVariants as file
use Rattle.basin_cli.specs.declared.ending.SeriesFinding.{SeriesFinding}
use Rattle.basin_cli.specs.declared.ending.SeriesFinding.TheVariants as finding
use Rattle.basin_cli.specs.declared.ending.SecondFinding.{SecondFinding}
use Rattle.basin_cli.specs.declared.ending.SecondFinding.TheVariants as of_second
use Rattle.basin_cli.specs.declared.ending.Ending.{Ending}
use Rattle.basin_cli.specs.declared.ending.Ending.TheVariants as ending
use Rattle.basin_cli.specs.declared.status.Status.{Status}
use Rattle.basin_cli.specs.declared.status.Status.TheVariants as status

abbrev pub status_of_second : SecondFinding → Status
status_of_second (of_second.Basin finding) = status.BasinRefused
status_of_second of_second.OtherRun = status.BasinRefused
status_of_second (of_second.Series finding) = status.SeriesRefused

abbrev pub status_of : Ending → Status
status_of ending.Done = status.Done
status_of (ending.Refuted refuted) = status.No
status_of ending.Injured = status.No
status_of ending.Met = status.No
status_of ending.Usage = status.Usage
status_of (ending.BasinRefused finding) = status.BasinRefused
status_of ending.PartYear = status.BasinRefused
status_of (ending.SeriesRefused finding) = status.SeriesRefused
status_of (ending.SecondRefused finding) = status_of_second finding
status_of (ending.ReadFault file) = status.ReadFault
status_of ending.WriteFault = status.WriteFault
status_of ending.OutOfMemory = status.OutOfMemory
status_of (ending.InputTooLong file) = status.InputTooLong
status_of (ending.ScriptRefused fault line) = status.ScriptRefused

-- the ending of a call that refused the second basin or its series, from how it refuses a basin or a series
abbrev pub second_of : Ending → Ending
second_of (ending.BasinRefused finding) = ending.SecondRefused (of_second.Basin finding)
second_of (ending.SeriesRefused finding) = ending.SecondRefused (of_second.Series finding)
second_of how = how

-- what a refusal of a basin's series is reported as: a missing amount by the node's or the right's name
abbrev pub finding_of : Basin → SeriesRefused → Option SeriesFinding
finding_of b (refused.Record fault number) = Some (finding.Record fault number)
finding_of b (refused.Missing month node) = Some (finding.Missing month (node_name b node))
finding_of b (refused.MissingWant month right) = Some (finding.MissingWant month (right_name b right))
finding_of b refused.OutOfMemory = None

unfoldable pub file_name : File → List ℕ
file_name file.Basin = codes "BASIN"
file_name file.Series = codes "SERIES"
file_name file.Result = codes "RESULT"
file_name file.SecondBasin = codes "BASIN2"
file_name file.Script = codes "SCRIPT"

-- whose basin it is, and FAULT TABLE ENTRY
unfoldable pub refusal_line : List ℕ → Finding → List ℕ
refusal_line whose finding =
    whose ++ fault_name finding.fault ++ codes " " ++ table_name finding.table ++ codes " " ++ decimal
    finding.entry ++ codes "\n"

-- whose series it is, and FAULT RECORD, or Missing MONTH NODE, or MissingWant MONTH RIGHT
unfoldable pub series_line : List ℕ → SeriesFinding → List ℕ
series_line whose (finding.Record fault number) =
    whose ++ series_fault.fault_name fault ++ codes " " ++ decimal number ++ codes "\n"
series_line whose (finding.Missing month node) =
    whose ++ codes "Missing " ++ month_digits month ++ codes " " ++ node ++ codes "\n"
series_line whose (finding.MissingWant month right) =
    whose ++ codes "MissingWant " ++ month_digits month ++ codes " " ++ right ++ codes "\n"

unfoldable pub second_line : SecondFinding → List ℕ
second_line (of_second.Basin finding) = refusal_line (codes "basin2: ") finding
second_line of_second.OtherRun = codes "basin2: OtherRun top 0\n"
second_line (of_second.Series finding) = series_line (codes "series2: ") finding

unfoldable pub script_fault_name : ScriptFault → List ℕ
script_fault_name script.AfterEnd = codes "AfterEnd"
script_fault_name script.BadLine = codes "BadLine"
script_fault_name script.OutsideRun = codes "OutsideRun"
script_fault_name script.NoSuchName = codes "NoSuchName"
script_fault_name script.NotSeries = codes "NotSeries"
script_fault_name script.EarlyEnd = codes "EarlyEnd"

-- FAULT LINE
unfoldable pub script_line : ScriptFault → ℕ → List ℕ
script_line fault line = codes "script: " ++ script_fault_name fault ++ codes " " ++ decimal line ++ codes "\n"

unfoldable pub line_of : Ending → List ℕ
line_of ending.Done = []
line_of (ending.Refuted refuted) = []
line_of ending.Injured = []
line_of ending.Met = []
line_of ending.Usage = codes "usage: basin_cli COMMAND WORDS\n"
line_of (ending.BasinRefused finding) = refusal_line (codes "basin: ") finding
line_of ending.PartYear = codes "basin: PartYear top 0\n"
line_of (ending.SeriesRefused finding) = series_line (codes "series: ") finding
line_of (ending.SecondRefused finding) = second_line finding
line_of (ending.ReadFault file) = codes "read: " ++ file_name file ++ codes "\n"
line_of ending.WriteFault = codes "write: failed\n"
line_of ending.OutOfMemory = codes "out of memory\n"
line_of (ending.InputTooLong file) = codes "too long: " ++ file_name file ++ codes "\n"
line_of (ending.ScriptRefused fault line) = script_line fault line

-- the month of a missing amount is one of the calendar
abbrev pub CanBeSpelled : SeriesFinding → Type 0
CanBeSpelled (finding.Record fault number) = ⊤
CanBeSpelled (finding.Missing month node) = IsMonth month
CanBeSpelled (finding.MissingWant month right) = IsMonth month

abbrev pub CanBeSpelledOfSecond : SecondFinding → Type 0
CanBeSpelledOfSecond (of_second.Series finding) = CanBeSpelled finding
CanBeSpelledOfSecond finding = ⊤

abbrev pub CanBePrinted : Ending → Type 0
CanBePrinted (ending.SeriesRefused finding) = CanBeSpelled finding
CanBePrinted (ending.SecondRefused finding) = CanBeSpelledOfSecond finding
CanBePrinted ending = ⊤
