-- What contracts see of a month with what was found of it.
use Rattle.std.specs.Prelude.{ℕ, List, Option}
use Rattle.rights_roll.specs.Rolls.{IsRollOf}
use Rattle.rights_roll.specs.RollView.{RollView}
use Rattle.result_text.specs.Range.{FitsText}
use Rattle.water_model.specs.Valid.{IsValidBasin}
use Rattle.water_model.specs.declared.types.Basin.{Basin}
use Rattle.water_model.specs.declared.types.MonthRecord.{MonthRecord}
use Rattle.call_list.specs.Found.{Found, FitsFound}
use Rattle.call_list.specs.Lists.{lines_at}
use Rattle.call_list.specs.declared.entry.Entry.{Entry}
use Rattle.call_list.specs.declared.part.Part.{Part}

pub record CallsSeen : Type 0 where
  pub basin : Basin
  pub roll : RollView
  pub month : MonthRecord
  pub found : Found

abbrev pub calls_seen : Basin → RollView → MonthRecord → List (Option ℕ) → List (Option ℕ) → CallsSeen
calls_seen b roll m next helped =
    record { basin = b; roll = roll; month = m; found = record { next = next; helped = helped } }

-- what each keeps: the basin is valid, the roll is that of its rights, the record is one of the basin whose lines can
-- be written, and what was found fits the basin
pub record AreMonthCalls (c : CallsSeen) : Type 0 where
  pub valid : IsValidBasin c.basin
  pub rolled : IsRollOf c.basin.rights c.roll
  pub fits : FitsText c.basin c.month
  pub found : FitsFound c.basin c.found

abbrev pub lines_of : CallsSeen → Part → ℕ → List Entry
lines_of c of_part position = lines_at of_part c.basin c.month c.found position
