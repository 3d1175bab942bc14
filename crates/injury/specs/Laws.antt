-- Laws over the comparison of runs.
use Rattle.std.specs.Prelude.{◌≡◌, ℕ, ◌<◌, Bool, List, [], slice_get, slice_index, Some, ◌↔◌, Contains}
use Rattle.water_model.specs.History.{IsPartialHistory, IsHistory}
use Rattle.water_model.specs.Valid.{IsValidBasin}
use Rattle.water_model.specs.declared.types.Basin.{Basin}
use Rattle.water_model.specs.declared.types.Series.{Series}
use Rattle.water_model.specs.declared.types.MonthRecord.{MonthRecord}
use Rattle.water_model.specs.declared.types.Right.{Right}
use Rattle.injury.specs.Common.{HaveOneName, common_rights}
use Rattle.injury.specs.Injuries.{IsInjury, injuries, comparison_text}
use Rattle.injury.specs.declared.injuries.Injury.{Injury}
use Rattle.injury.specs.OneMore.{HasOneMore, GiveSame}
use Rattle.injury.specs.Changed.{HasChanged, IsSeniorToChange, GiveUnchanged, LeaveSame, SparesCarryover}

-- Common rights are those of one name. The pairs are the rights of the first basin that the second has by name.
abbrev pub CommonRightsHaveOneName : Type 0
CommonRightsHaveOneName =
    (first second : Basin) (r s : ℕ) → IsValidBasin second →
    HaveOneName first second r s ↔ Contains (common_rights first second) (record { first = r; second = s })

-- Each injury is listed, and nothing else. The list names every common right in every month in which it is delivered
-- less in the second run, with both deliveries.
abbrev pub InjuriesAreAllListed : Type 0
InjuriesAreAllListed =
    (first second : Basin) (records others : List MonthRecord) (injury : Injury) → IsValidBasin second →
    IsInjury first second records others injury ↔ Contains (injuries first second records others) injury

-- A comparison has one text. Which of several histories of the two basins are taken does not show in it.
abbrev pub ComparisonsHaveOneText : Type 0
ComparisonsHaveOneText =
    (first second : Basin) (series other : Series) (records records' others others' : List MonthRecord) →
    IsValidBasin first → IsValidBasin second →
    IsHistory first series records → IsHistory first series records' →
    IsHistory second other others → IsHistory second other others' →
    comparison_text first second records others ≡ comparison_text first second records' others'

-- A most junior right injures nobody. Where a basin gets one more diversion or instream right, junior to all others,
-- each common right is delivered the same in every month of any history of the one and of the other.
abbrev pub JuniorInjuresNobody : Type 0
JuniorInjuresNobody =
    (first second : Basin) (at : ℕ) (right : Right) (series other : Series) (records others : List MonthRecord) →
    IsValidBasin first → IsValidBasin second → HasOneMore first second at right → GiveSame first at series other →
    IsPartialHistory first series records → IsPartialHistory second other others →
    (i : ℕ) (m n : MonthRecord) → slice_get records i ≡ Some m → slice_get others i ≡ Some n →
    (r s : ℕ) → HaveOneName first second r s → slice_index m.delivered r ≡ slice_index n.delivered s

-- so that a comparison has no injury
abbrev pub JuniorLeavesNoInjury : Type 0
JuniorLeavesNoInjury =
    (first second : Basin) (at : ℕ) (right : Right) (series other : Series) (records others : List MonthRecord) →
    IsValidBasin first → IsValidBasin second → HasOneMore first second at right → GiveSame first at series other →
    IsPartialHistory first series records → IsPartialHistory second other others →
    injuries first second records others ≡ []

-- A change injures juniors alone, in the month itself. As long as the months before left the same in the reservoirs and
-- of what comes back, a right that is senior to each changed right is delivered the same in histories of both basins.
abbrev pub ChangeInjuresJuniorsAlone : Type 0
ChangeInjuresJuniorsAlone =
    (first second : Basin) (changed : ℕ → Bool) (series other : Series) (records others : List MonthRecord) →
    IsValidBasin first → IsValidBasin second → HasChanged first second changed →
    GiveUnchanged first changed series other →
    IsPartialHistory first series records → IsPartialHistory second other others →
    (i : ℕ) (m n : MonthRecord) → slice_get records i ≡ Some m → slice_get others i ≡ Some n →
    ((j : ℕ) (x y : MonthRecord) → j < i → slice_get records j ≡ Some x → slice_get others j ≡ Some y →
    LeaveSame first x y) →
    (right : ℕ) → IsSeniorToChange first second changed right →
    slice_index m.delivered right ≡ slice_index n.delivered right

-- So a change injures no senior in any month, where each zone and each right from which water comes back is senior to
-- it.
abbrev pub ChangeInjuresNoSenior : Type 0
ChangeInjuresNoSenior =
    (first second : Basin) (changed : ℕ → Bool) (series other : Series) (records others : List MonthRecord) →
    IsValidBasin first → IsValidBasin second → HasChanged first second changed →
    GiveUnchanged first changed series other → SparesCarryover first second changed →
    IsPartialHistory first series records → IsPartialHistory second other others →
    (i : ℕ) (m n : MonthRecord) → slice_get records i ≡ Some m → slice_get others i ≡ Some n →
    (right : ℕ) → IsSeniorToChange first second changed right →
    slice_index m.delivered right ≡ slice_index n.delivered right
