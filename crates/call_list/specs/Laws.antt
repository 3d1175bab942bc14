-- Laws over the definitions.
use Rattle.std.specs.Prelude.{◌≡◌, ◌↔◌, ℕ, ◌<◌, List, length, slice_get, Some}
use Rattle.water_model.specs.History.{IsPartialHistory}
use Rattle.water_model.specs.Valid.{IsValidBasin}
use Rattle.water_model.specs.declared.types.Basin.{Basin}
use Rattle.water_model.specs.declared.types.Series.{Series}
use Rattle.water_model.specs.declared.types.MonthRecord.{MonthRecord}
use Rattle.plan_residual.specs.Residual.{HasPlan}
use Rattle.next_unit.specs.Next.{IsCurtailedFor}
use Rattle.call_list.specs.Found.{Found, IsFoundIn, curtailed_for}
use Rattle.call_list.specs.Whole.{MonthFound, AreFoundIn, records_of, list_bytes}

-- A right has a line that it is curtailed exactly where it is, with the right for which it is.
abbrev pub CurtailedExactly : Type 0
CurtailedExactly =
    (b : Basin) (m : MonthRecord) (found : Found) (right caller : ℕ) → HasPlan b m → IsFoundIn b m found →
    right < length b.rights → (curtailed_for b m found.next right ≡ Some caller) ↔ IsCurtailedFor b m right caller

-- What is found in a month is determined by the basin and the series. Two partial histories of them leave one answer
-- of each month, whatever plans they have.
abbrev pub FoundIsDetermined : Type 0
FoundIsDetermined =
    (b : Basin) (series : Series) (records others : List MonthRecord) (i : ℕ) (m n : MonthRecord) (f g : Found) →
    IsValidBasin b → IsPartialHistory b series records → IsPartialHistory b series others →
    slice_get records i ≡ Some m → slice_get others i ≡ Some n → IsFoundIn b m f → IsFoundIn b n g → f ≡ g

-- And so is the list: it has one text.
abbrev pub ListIsDetermined : Type 0
ListIsDetermined =
    (b : Basin) (series : Series) (months others : List MonthFound) → IsValidBasin b →
    IsPartialHistory b series (records_of months) → IsPartialHistory b series (records_of others) →
    length months ≡ length others → AreFoundIn b months → AreFoundIn b others →
    list_bytes b months ≡ list_bytes b others
