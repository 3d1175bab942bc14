-- An audit of a text: is it that of a history whose sets are the reaches?
use Rattle.std.specs.Prelude.{◌≡◌, ℕ, ◌+◌, Bool, true, false, List, take, slice_get, count_by, Some, Result, Ok, Err}
use Rattle.std.specs.Prelude.{◌⊎◌}
use Rattle.water_model.specs.History.{IsHistory, HaveReaches}
use Rattle.result_lines.specs.Text.{items_of, text_bytes}
use Rattle.result_lines.specs.declared.item.Item.{Item}
use Rattle.result_lines.specs.declared.item.Item.TheVariants as line
use Rattle.water_model.specs.declared.types.Basin.{Basin}
use Rattle.water_model.specs.declared.types.Series.{Series}
use Rattle.water_model.specs.declared.types.MonthRecord.{MonthRecord}
use Rattle.plan_residual.specs.Reaches.{IsFirstOther}
use Rattle.cert_check.specs.Whole.{text_verdict}
use Rattle.cert_check.specs.declared.refuted.Refuted.{Refuted}
use Rattle.cert_check.specs.declared.refuted.RefutedKind.TheVariants as kind

-- the bytes are the text of a history in which the set of each short right is its reach
pub record IsAuditedText (b : Basin) (series : Series) (bytes : List ℕ) : Type 0 where
  pub records : List MonthRecord
  pub history : IsHistory b series records
  pub reaches : HaveReaches b records
  pub text : bytes ≡ text_bytes b records

abbrev pub is_end : Item → Bool
is_end line.End = true
is_end other = false

-- how many months end in some lines
abbrev pub ended_months : List Item → ℕ
ended_months items = count_by is_end items

-- The line of this number, counted from 1, is the `call` of a right in the month of this index: as many months end
-- before it.
pub record IsCallLine (items : List Item) (month right number : ℕ) : Type 0 where
  pub position : ℕ
  pub at : slice_get items position ≡ Some (line.Call right)
  pub after : ended_months (take position items) ≡ month
  pub counted : number ≡ position + 1

-- In some month a set isn't a reach, and in none before it. The line of this number is the `call` of the most senior
-- right of that month whose set isn't its reach.
pub record IsFirstOtherLine (b : Basin) (records : List MonthRecord) (items : List Item) (number : ℕ) : Type 0 where
  pub month : ℕ
  pub outcome : MonthRecord
  pub is : slice_get records month ≡ Some outcome
  pub right : ℕ
  pub other : IsFirstOther b outcome (Some right)
  pub before : HaveReaches b (take month records)
  pub call : IsCallLine items month right number

-- the bytes are the text of a history, but a set isn't a reach: the first such `call` line is named
pub record IsOtherText (b : Basin) (series : Series) (bytes : List ℕ) (refused : Refuted) : Type 0 where
  pub records : List MonthRecord
  pub history : IsHistory b series records
  pub text : bytes ≡ text_bytes b records
  pub kind : refused.kind ≡ kind.NotReach
  pub first : IsFirstOtherLine b records (items_of b records) refused.line

-- the answer of an audit: the number of the run's months where the text is audited, the refusal that the verdict on it
-- is, or the first set that isn't a reach
abbrev pub IsAuditAnswer : Basin → Series → List ℕ → Result ℕ Refuted → Type 0
IsAuditAnswer b series bytes (Ok months) = IsAuditedText b series bytes × (months ≡ b.months)
IsAuditAnswer b series bytes (Err refused) =
    (text_verdict b series bytes ≡ Err refused) ⊎ IsOtherText b series bytes refused
