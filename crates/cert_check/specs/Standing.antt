-- What a checker stands for, and what its answers say.
use Rattle.std.specs.Prelude.{◌≡◌, ℕ, ◌-◌, List, [], length, reverse, Option, Some, None, Result, Ok, Err, IsOk, IsSome}
use Rattle.result_lines.specs.declared.item.Item.{Item}
use Rattle.water_model.specs.declared.types.Basin.{Basin}
use Rattle.water_model.specs.declared.types.Series.{Series}
use Rattle.result_reader.specs.Standing as reader
use Rattle.result_reader.specs.ReadSoFar.{read_so_far}
use Rattle.cert_check.specs.Auditing.{IsAuditIfAny}
use Rattle.cert_check.specs.Checking.{verdict_from, members_first, is_whole}
use Rattle.cert_check.specs.Keeping.{Keeps}
use Rattle.cert_check.specs.declared.progress.CheckProgress.{CheckProgress}
use Rattle.cert_check.specs.declared.refuted.Refuted.{Refuted}

-- the counts of check progress are those of these lines: how many they are, the number of the last that is no `in`
-- line, and whether the text has its last line
pub record Counts (k : CheckProgress) (items : List Item) : Type 0 where
  pub read : k.read ≡ length items
  pub last_other : k.last_other ≡ length items - members_first (reverse items)
  pub ended : k.ended ≡ is_whole items

-- no line is at fault so far. The reader accepted what the lines say, the check state keeps it, and an audit found the
-- first set that isn't a reach
pub record IsProgressOf (b : Basin) (series : Series) (k : CheckProgress) (lines : List (List ℕ)) : Type 0 where
  pub items : List Item
  pub verdict : verdict_from b series [] lines ≡ Ok items
  pub basin : k.reader.basin ≡ b
  pub reader : reader.ReaderStandsFor k.reader items
  pub state : Keeps b series k.state.value (read_so_far b series items)
  pub counts : Counts k items
  pub audit : IsAuditIfAny b (read_so_far b series items) items k.audit

-- the value that contracts see of a checker: its basin and series, what it keeps of good lines, and the refusal if a
-- line was at fault
pub record CheckerView : Type 0 where
  pub basin : Basin
  pub series : Series
  pub progress : CheckProgress
  pub refused : Option Refuted

-- an audit was asked for
abbrev pub IsAudit : CheckerView → Type 0
IsAudit c = IsSome c.progress.audit

-- how many lines may still be accepted, at most
abbrev pub lines_left : CheckerView → ℕ
lines_left c = c.progress.reader.left

-- The checker was given these lines: none of them is at fault and it keeps what they say, or it keeps the refusal that
-- the verdict on them is.
abbrev pub Stands : Option Refuted → CheckerView → List (List ℕ) → Type 0
Stands None c lines = IsProgressOf c.basin c.series c.progress lines
Stands (Some refused) c lines = verdict_from c.basin c.series [] lines ≡ Err refused

abbrev pub CheckerStandsFor : CheckerView → List (List ℕ) → Type 0
CheckerStandsFor c lines = Stands c.refused c lines

-- the answer to a line is that of the verdict on the lines with it: nothing is at fault so far, or the same refusal
abbrev pub IsLineAnswer : Result (Unit {0}) Refuted → Result (List Item) Refuted → Type 0
IsLineAnswer (Ok _) verdict = IsOk verdict
IsLineAnswer (Err refuted) verdict = verdict ≡ Err refuted

-- the answer to a whole text is that of the verdict on it: the number of the run's months, or the same refusal
abbrev pub IsAnswer : Basin → Result ℕ Refuted → Result (List Item) Refuted → Type 0
IsAnswer b (Ok months) verdict = IsOk verdict × (months ≡ b.months)
IsAnswer b (Err refuted) verdict = verdict ≡ Err refuted
