-- What taking a line does.
use Rattle.std.specs.Prelude.{◌≡◌, ℕ, List, [], ◌∷◌, ◌++◌, None, Result, Ok, Err}
use Rattle.result_lines.specs.declared.item.Item.{Item}
use Rattle.result_lines.specs.declared.item.Item.TheVariants as line
use Rattle.water_model.specs.declared.types.Basin.{Basin}
use Rattle.water_model.specs.declared.types.Series.{Series}
use Rattle.result_reader.specs.ReadSoFar.{read_so_far}
use Rattle.cert_check.specs.Auditing.{IsAuditIfAny, MonthFollows}
use Rattle.cert_check.specs.Checking.{verdict_from, first_row, judge_row}
use Rattle.cert_check.specs.Coming.{MayCome}
use Rattle.cert_check.specs.Keeping.{Keeps}
use Rattle.cert_check.specs.Standing.{IsProgressOf, Counts}
use Rattle.cert_check.specs.declared.progress.CheckProgress.{CheckProgress}
use Rattle.cert_check.specs.declared.refuted.Refuted.{Refuted}

-- check progress of some lines
pub record HasLines (b : Basin) (series : Series) (k : CheckProgress) : Type 0 where
  pub lines : List (List ℕ)
  pub stands : IsProgressOf b series k lines

-- with one more line the check progress is that of all of them, or the verdict is a refusal
abbrev pub TakesLine : Basin → Series → CheckProgress → List (List ℕ) → Result (Unit {0}) Refuted → Type 0
TakesLine b series k lines (Ok _) = IsProgressOf b series k lines
TakesLine b series k lines (Err e) = verdict_from b series [] lines ≡ Err e

-- what these lines say is kept, and this one may come after them
pub record IsRead (b : Basin) (series : Series) (k : CheckProgress) (items : List Item) (item : Item) : Type 0 where
  pub state : Keeps b series k.state.value (read_so_far b series items)
  pub counts : Counts k items
  pub comes : MayCome b series (read_so_far b series items) item
  pub ends : item ≡ line.End → first_row b series (read_so_far b series items) item ≡ None →
      MonthFollows b series (read_so_far b series items)
  pub audit : IsAuditIfAny b (read_so_far b series items) items k.audit

pub record HasItems (b : Basin) (series : Series) (k : CheckProgress) (item : Item) : Type 0 where
  pub items : List Item
  pub so_far : IsRead b series k items item

-- an item that no row refutes was read, and every other is refused as the verdict refuses it
abbrev pub TakesItem : Basin → Series → CheckProgress → List Item → Item → Result (Unit {0}) Refuted → Type 0
TakesItem b series k items item (Ok _) =
    (first_row b series (read_so_far b series items) item ≡ None) ×
    Keeps b series k.state.value (read_so_far b series (items ++ item ∷ [])) × Counts k (items ++ item ∷ []) ×
    IsAuditIfAny b (read_so_far b series (items ++ item ∷ [])) (items ++ item ∷ []) k.audit
TakesItem b series k items item (Err e) =
    judge_row items item (first_row b series (read_so_far b series items) item) ≡ Err e
