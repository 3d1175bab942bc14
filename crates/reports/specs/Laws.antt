-- Laws over the figures of a run.
use Rattle.std.specs.Prelude.{◌≡◌, ℕ, List}
use Rattle.water_model.specs.History.{HaveReaches, IsPartialHistory, IsHistory}
use Rattle.water_model.specs.Valid.{IsValidBasin}
use Rattle.water_model.specs.declared.types.Basin.{Basin}
use Rattle.water_model.specs.declared.types.Series.{Series}
use Rattle.water_model.specs.declared.types.MonthRecord.{MonthRecord}
use Rattle.reports.specs.Figures.{AreBalanced, waters_of}
use Rattle.reports.specs.Reports.{report_text, trial_text}

-- The figures of the balance have equal sides.
abbrev pub FiguresAreBalanced : Type 0
FiguresAreBalanced =
    (b : Basin) (series : Series) (records : List MonthRecord) → IsValidBasin b → IsPartialHistory b series records →
    AreBalanced (waters_of b series records)

-- One report. Two histories of one basin and series, with the reaches as their sets, have one report and one summary:
-- which of several flows was found does not show in them.
abbrev pub RunsHaveOneReport : Type 0
RunsHaveOneReport =
    (b : Basin) (series : Series) (records others : List MonthRecord) (number size : ℕ) → IsValidBasin b →
    IsHistory b series records → HaveReaches b records → IsHistory b series others → HaveReaches b others →
    (report_text b series records ≡ report_text b series others)
    × (trial_text number size b series records ≡ trial_text number size b series others)
