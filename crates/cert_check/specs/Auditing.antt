-- What an audit keeps of good lines.
use Rattle.std.specs.Prelude.{◌≡◌, ℕ, List, length, slice_index, slice_set, Option, Some, None, IsSome}
use Rattle.std.specs.Prelude.{option_map, Result, Ok, Err}
use Rattle.water_model.specs.History.{Follows, HaveReaches, IsPartialHistory, cut_of}
use Rattle.result_lines.specs.declared.item.Item.{Item}
use Rattle.result_lines.specs.declared.item.Item.TheVariants as line
use Rattle.water_model.specs.declared.types.Basin.{Basin}
use Rattle.water_model.specs.declared.types.Series.{Series}
use Rattle.water_model.specs.declared.types.MonthRecord.{MonthRecord}
use Rattle.plan_residual.specs.Reaches.{IsFirstOther}
use Rattle.plan_residual.specs.Rows.{IsSearchOf}
use Rattle.result_reader.specs.ReadSoFar.{ReadSoFar, with_supply}
use Rattle.cert_check.specs.Audit.{ended_months, IsCallLine, IsFirstOtherLine}
use Rattle.cert_check.specs.Coming.{IsWithinMonth}
use Rattle.cert_check.specs.Keeping.{Keeps}
use Rattle.cert_check.specs.declared.state.CheckState.{CheckState}
use Rattle.cert_check.specs.declared.audit.Audit.{Audit}
use Rattle.cert_check.specs.declared.refuted.Refuted.{Refuted}
use Rattle.cert_check.specs.declared.refuted.RefutedKind.TheVariants as kind

-- each right that has a set in the current month has the line of its `call`
abbrev pub HasCallLines : ReadSoFar → List Item → List ℕ → Type 0
HasCallLines t items lines =
    t.now.index ≡ length t.months → (r : ℕ) → IsSome (cut_of t.now r) →
    IsCallLine items (length t.months) r (slice_index lines r)

-- all sets of the months that ended are reaches, or this line is the first `call` of another
abbrev pub IsFound : Basin → List MonthRecord → List Item → Option ℕ → Type 0
IsFound b months items None = HaveReaches b months
IsFound b months items (Some number) = IsFirstOtherLine b months items number

-- an audit has memory for a basin
pub record HasMemory (b : Basin) (a : Audit) : Type 0 where
  pub search : IsSearchOf b a.search
  pub lines : length a.call_lines ≡ length b.rights

-- an audit of these lines, by what they say
pub record IsAuditOf (b : Basin) (t : ReadSoFar) (items : List Item) (a : Audit) : Type 0 where
  pub memory : HasMemory b a
  pub months : ended_months items ≡ length t.months
  pub lines : HasCallLines t items a.call_lines
  pub found : IsFound b t.months items a.other

-- what a checker keeps is such an audit, where one was asked for
abbrev pub IsAuditIfAny : Basin → ReadSoFar → List Item → Option Audit → Type 0
IsAuditIfAny b t items None = Unit {0}
IsAuditIfAny b t items (Some a) = IsAuditOf b t items a

-- the month that was read is one of a history
abbrev pub MonthFollows : Basin → Series → ReadSoFar → Type 0
MonthFollows b series t = Follows b series t.months (with_supply b series t.now)

-- a check state keeps what some lines say, and the month that was read may end
pub record MonthEnds (b : Basin) (series : Series) (a : CheckState) : Type 0 where
  pub so_far : ReadSoFar
  pub keeps : Keeps b series a so_far
  pub partial : IsPartialHistory b series so_far.months
  pub under_way : IsWithinMonth b series so_far
  pub follows : MonthFollows b series so_far

-- what was found stays; where nothing was, the month is asked
abbrev pub IsAsked : Basin → MonthRecord → List ℕ → Option ℕ → Option ℕ → Type 0
IsAsked b m lines (Some number) other = other ≡ Some number
IsAsked b m lines None other =
    (right : Option ℕ) × IsFirstOther b m right × (other ≡ option_map (λ r. slice_index lines r) right)

-- a month was asked
pub record AsksMonth (b : Basin) (m : MonthRecord) (old new : Audit) : Type 0 where
  pub search : new.search ≡ old.search
  pub lines : new.call_lines ≡ old.call_lines
  pub other : IsAsked b m old.call_lines old.other new.other

-- the number of a `call` line is kept, and at an `end` line the month is asked
abbrev pub TakesAudit : Basin → Series → ReadSoFar → Item → ℕ → Audit → Audit → Type 0
TakesAudit b series t (line.Call r) number old new =
    new ≡ record old { call_lines = slice_set old.call_lines r number }
TakesAudit b series t line.End number old new =
    MonthFollows b series t → AsksMonth b (with_supply b series t.now) old new
TakesAudit b series t item number old new = new ≡ old

-- the answer where a check accepts
abbrev pub audit_answer : Option ℕ → ℕ → Result ℕ Refuted
audit_answer None months = Ok months
audit_answer (Some number) months = Err (record { line = number; kind = kind.NotReach })
