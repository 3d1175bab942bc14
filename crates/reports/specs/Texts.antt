-- The lines of reports, by what is kept of a run.
use Rattle.std.specs.Prelude.{◌≡◌, ℕ, ◌<◌, List, [], ◌∷◌, codes, length, All, IfSome}
use Rattle.std.specs.Fmt.{decimal}
use Rattle.std.specs.List.{join_with_byte}
use Rattle.water_text.specs.Months.{IsMonth, month_digits}
use Rattle.water_model.specs.Basin.{right_name}
use Rattle.water_model.specs.Lookups.{of_entry}
use Rattle.water_model.specs.Valid.{IsValidBasin}
use Rattle.water_model.specs.declared.types.Basin.{Basin}
use Rattle.reports.specs.Reports.{row, month_or_dash, done_row}
use Rattle.reports.specs.declared.entry.ReportLine.{ReportLine}
use Rattle.reports.specs.declared.entry.ReportLine.TheVariants as line
use Rattle.reports.specs.declared.figures.RightFigures.{RightFigures}

-- the line names a right of the basin and a month of the calendar
abbrev pub IsOfBasin : Basin → ReportLine → Type 0
IsOfBasin b (line.Right right f) = (right < length b.rights) × IfSome f.worst IsMonth
IsOfBasin b _ = Unit {0}

-- the bytes of a line
unfoldable pub whole_line : Basin → ReportLine → List ℕ
whole_line b line.Report = row (codes "report" ∷ month_digits b.first ∷ decimal b.months ∷ [])
whole_line b (line.Right right f) = row (
    codes "right" ∷ right_name b right ∷ decimal f.short_months ∷ decimal f.wanted
    ∷ decimal f.delivered ∷ month_or_dash f.worst ∷ [])
whole_line b (line.Trial number size) = row (codes "trial" ∷ decimal number ∷ decimal size ∷ [])
whole_line b line.Size = row (
    codes "size" ∷ decimal (length b.nodes) ∷ decimal (length b.links) ∷ decimal (length b.rights)
    ∷ decimal b.months ∷ [])
whole_line b (line.Wanted amount) = row (codes "wanted" ∷ decimal amount ∷ [])
whole_line b (line.Delivered amount) = row (codes "delivered" ∷ decimal amount ∷ [])
whole_line b (line.Short count) = row (codes "short" ∷ decimal count ∷ [])
whole_line b (line.Called count) = row (codes "called" ∷ decimal count ∷ [])
whole_line b (line.Balance w) =
    join_with_byte 32
    (codes "balance" ∷ decimal w.opening ∷ decimal w.inflows ∷ decimal w.returns ∷ decimal w.closing ∷ [])
whole_line b (line.Rest w) = 32 ∷ row (decimal w.evaporated ∷ decimal w.diverted ∷ decimal w.out ∷ [])
whole_line b line.Done = done_row b

-- the line of a right, by the figures of all
abbrev pub right_lines : List RightFigures → ℕ → List ReportLine
right_lines figures right = of_entry figures right (λ f. line.Right right f ∷ []) []

-- what contracts see of the figures of a basin's rights, one for each
pub record RightsSeen : Type 0 where
  pub basin : Basin
  pub figures : List RightFigures

abbrev pub rights_seen : Basin → List RightFigures → RightsSeen
rights_seen b figures = record { basin = b; figures = figures }

pub record AreRights (r : RightsSeen) : Type 0 where
  pub valid : IsValidBasin r.basin
  pub count : length r.figures ≡ length r.basin.rights
  pub worst : All (λ f. IfSome f.worst IsMonth) r.figures
