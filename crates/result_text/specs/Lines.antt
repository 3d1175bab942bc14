-- What contracts see of a month whose lines are put.
use Rattle.std.specs.Prelude.{ℕ, Bool, List, Option}
use Rattle.cut_cert.specs.Callers.{AreCallers}
use Rattle.result_lines.specs.Quantities.{AreReturnedTo}
use Rattle.water_model.specs.Valid.{IsValidBasin}
use Rattle.water_model.specs.declared.types.Basin.{Basin}
use Rattle.water_model.specs.declared.types.MonthRecord.{MonthRecord}
use Rattle.result_text.specs.Range.{FitsText}

-- its basin and record, whether a return row names a node, and the first caller of each node
pub record MonthSeen : Type 0 where
  pub basin : Basin
  pub month : MonthRecord
  pub returned : List Bool
  pub callers : List (Option ℕ)

abbrev pub month_seen : Basin → MonthRecord → List Bool → List (Option ℕ) → MonthSeen
month_seen b m returned callers = record { basin = b; month = m; returned = returned; callers = callers }

-- the record is one of the basin whose lines can be written, and the lists are of these
pub record IsMonthSeen (s : MonthSeen) : Type 0 where
  pub valid : IsValidBasin s.basin
  pub fits : FitsText s.basin s.month
  pub returned : AreReturnedTo s.basin s.returned
  pub callers : AreCallers s.basin s.month s.callers
