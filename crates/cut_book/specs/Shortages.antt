-- A right that is short in a month, and the lines of its account.
use Rattle.std.specs.Prelude.{ℕ, List}
use Rattle.rights_roll.specs.Rolls.{IsRollOf}
use Rattle.rights_roll.specs.RollView.{RollView}
use Rattle.water_model.specs.CutSets.{CutSets}
use Rattle.water_model.specs.Valid.{IsValidBasin}
use Rattle.water_model.specs.declared.types.Basin.{Basin}
use Rattle.water_model.specs.declared.types.MonthRecord.{MonthRecord}
use Rattle.result_text.specs.Range.{FitsText}
use Rattle.cut_cert.specs.Sets.{HasCut, cut_at}
use Rattle.cut_book.specs.Book.{lines_at, terms}
use Rattle.cut_book.specs.declared.entry.BookLine.{BookLine}
use Rattle.cut_book.specs.declared.part.Part.{Part}

-- what contracts see of it: the basin, its roll, the record of the month, the cuts in which the right's set stands, and
-- the right
pub record ShortageView : Type 0 where
  pub basin : Basin
  pub roll : RollView
  pub month : MonthRecord
  pub cuts : CutSets
  pub right : ℕ

abbrev pub shortage : Basin → RollView → MonthRecord → CutSets → ℕ → ShortageView
shortage b roll m cuts right = record { basin = b; roll = roll; month = m; cuts = cuts; right = right }

-- what each keeps: the basin is valid, the roll is that of its rights, the record is one of the basin whose lines can
-- be written, and the cuts have a set of the right
pub record IsShortage (s : ShortageView) : Type 0 where
  pub valid : IsValidBasin s.basin
  pub rolled : IsRollOf s.basin.rights s.roll
  pub fits : FitsText s.basin s.month
  pub cut : HasCut s.basin s.cuts s.right

-- the lines of an entry of a part of its set's bound, and all
abbrev pub lines_of : ShortageView → Part → ℕ → List BookLine
lines_of s of_part index = lines_at of_part s.basin s.month s.right (cut_at s.cuts s.right) index

abbrev pub terms_of : ShortageView → List BookLine
terms_of s = terms s.basin s.month s.right (cut_at s.cuts s.right)
