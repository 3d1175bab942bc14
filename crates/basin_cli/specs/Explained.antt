-- Why a right got no more in a month, and where one more unit would help it: what may be asked of a basin, and what is
-- answered.
use Rattle.std.specs.Prelude.{◌≡◌, ℕ, ◌+◌, ◌<◌, ◌≤◌, pos, ◌-ℤ◌, Bool, List, [], ◌∷◌, ◌++◌, codes, length}
use Rattle.std.specs.Prelude.{slice_index, sum_by}
use Rattle.call_list.specs.Helpers.{HelpFinderSeen, IsHelpFinderOf}
use Rattle.call_list.specs.Helping.{IsHelpingText}
use Rattle.cut_book.specs.Book.{book_bytes, terms}
use Rattle.cut_book.specs.Entries.{balance_of, brought, kept}
use Rattle.plan_residual.specs.Residual.{HasPlan}
use Rattle.result_text.specs.Range.{FitsText}
use Rattle.rights_roll.specs.RollView.{RollView}
use Rattle.rights_roll.specs.Rolls.{IsRollOf}
use Rattle.water_model.specs.History.{HasReaches, HaveReaches, IsPartialHistory, IsShort}
use Rattle.water_model.specs.Valid.{IsValidBasin}
use Rattle.month_fold.specs.Runs.{RunView, RunStandsFor}
use Rattle.month_fold.specs.Works.{Solves, WorkDone}
use Rattle.water_model.specs.Basin.{right_name}
use Rattle.water_model.specs.Cuts.{IsReach, cut_bound}
use Rattle.water_model.specs.Hydrology.{run_month}
use Rattle.water_model.specs.declared.types.Basin.{Basin}
use Rattle.water_model.specs.declared.types.Series.{Series}
use Rattle.water_model.specs.declared.types.MonthRecord.{MonthRecord}
use Rattle.water_text.specs.Months.{month_digits}
use Rattle.water_text.specs.declared.month.Month.{Month}
use Rattle.basin_cli.specs.declared.explaining.Account.{Account}
use Rattle.basin_cli.specs.declared.explaining.Account.TheVariants as account
use Rattle.basin_cli.specs.declared.ending.Ending.{Ending}
use Rattle.basin_cli.specs.declared.ending.Ending.TheVariants as ending

-- the month has this index in the run of the basin
pub record IsMonthAt (b : Basin) (month : Month) (index : ℕ) : Type 0 where
  pub within : index < b.months
  pub is : run_month b index ≡ month

-- the run of the basin has the month
abbrev pub HasMonth : Basin → Month → Type 0
HasMonth b month = (index : ℕ) × IsMonthAt b month index

-- the right of this index has the name
pub record IsRightNamed (b : Basin) (name : List ℕ) (right : ℕ) : Type 0 where
  pub within : right < length b.rights
  pub is : right_name b right ≡ name

-- some right of the basin has the name
abbrev pub HasRight : Basin → List ℕ → Type 0
HasRight b name = (right : ℕ) × IsRightNamed b name right

-- a record of the month: the last of a partial history of the basin and its series, with the reaches as the sets of
-- short rights
pub record IsRecordOf (b : Basin) (series : Series) (month : Month) (m : MonthRecord) : Type 0 where
  pub before : List MonthRecord
  pub partial : IsPartialHistory b series (before ++ m ∷ [])
  pub reaches : HaveReaches b (before ++ m ∷ [])
  pub is : m.month ≡ month

-- what is asked by a month and a name: the right of the name, and a record of the month
pub record IsAbout (b : Basin) (series : Series) (month : Month) (name : List ℕ) (right : ℕ) (m : MonthRecord) : Type 0
  where
    pub named : IsRightNamed b name right
    pub of_month : IsRecordOf b series month m

-- the account of a right that is short: what the lines of its book bring, less what they keep, is the bound that its
-- reach puts on it, and this is what it was delivered
pub record IsBookOfReach (b : Basin) (m : MonthRecord) (right : ℕ) (reach : List Bool) : Type 0 where
  pub is_reach : IsReach b m.month m.supply m.delivered right reach
  pub bound : pos (sum_by brought (terms b m right reach)) -ℤ pos (sum_by kept (terms b m right reach))
      ≡ cut_bound b m.month m.supply m.delivered right reach
  pub sum : balance_of (terms b m right reach) ≡ slice_index m.delivered right

-- met MONTH RIGHT
unfoldable pub met_line : Month → List ℕ → List ℕ
met_line month name = codes "met " ++ month_digits month ++ codes " " ++ name ++ codes "\n"

-- the text that answers a short right: the book of its reach, or where one more unit would help it, with the account of
-- its core
abbrev pub ExplainsShort : Account → Basin → MonthRecord → ℕ → List ℕ → Type 0
ExplainsShort account.Reach b m right text =
    (reach : List Bool) × IsBookOfReach b m right reach × (text ≡ book_bytes b m right reach)
ExplainsShort account.Core b m right text = IsHelpingText b m right text

-- the text that answers why a right got no more in a month, or where one more unit would help it: that text, where it
-- is short, and otherwise that it is met
pub record Explains (asked : Account) (b : Basin) (m : MonthRecord) (right : ℕ) (text : List ℕ) : Type 0 where
  pub short : IsShort m right → ExplainsShort asked b m right text
  pub met : slice_index m.want right ≤ slice_index m.delivered right → text ≡ met_line m.month (right_name b right)

-- what is had of a record, to answer for a right in it: its lines can be written, and its sets are the reaches
pub record CanExplain (b : Basin) (finder : HelpFinderSeen) (roll : RollView) (m : MonthRecord) (right : ℕ) : Type 0
  where
    pub finds : IsHelpFinderOf b finder
    pub valid : IsValidBasin b
    pub ranks : IsRollOf b.rights roll
    pub fits : FitsText b m
    pub plan : HasPlan b m
    pub reaches : HasReaches b m
    pub within : right < length b.rights

-- a run whose last record is of its last month
pub record HasLast (run : RunView) : Type 0 where
  pub before : List MonthRecord
  pub stands : RunStandsFor run (before ++ run.last ∷ [])

-- no month is solved but those up to this one, and none where the run of the basin hasn't it
pub record WorkUpTo (b : Basin) (month : Month) (before now : WorkDone) : Type 0 where
  pub in_run : (index : ℕ) → IsMonthAt b month index → Solves (index + 1) b before now
  pub outside : (HasMonth b month → ⊥) → now ≡ before

-- how the answer about a right in a record may end: as the right is, or by a fault of out
abbrev pub EndsExplaining : MonthRecord → ℕ → Ending → Type 0 → Type 0
EndsExplaining m right ending.Done write = IsShort m right
EndsExplaining m right ending.Met write = slice_index m.want right ≤ slice_index m.delivered right
EndsExplaining m right ending.WriteFault write = write
EndsExplaining m right other write = ⊥
