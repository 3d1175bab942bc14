-- A comparison has one text.
use Rattle.std.proofs.Common.{◌≡◌, ℕ, suc, refl, sym, ◌∙◌, ap, ap₂, arith, List, [], ◌∷◌, ◌++◌, length}
use Rattle.std.specs.Prelude.{slice_get, Some, flat_map}
use Rattle.water_model.specs.History.{IsHistory}
use Rattle.duality.specs.Laws.{HaveSameOutcome}
use Rattle.water_model.specs.Valid.{IsValidBasin}
use Rattle.water_model.specs.declared.types.Basin.{Basin}
use Rattle.water_model.specs.declared.types.Series.{Series}
use Rattle.water_model.specs.declared.types.MonthRecord.{MonthRecord}
use Rattle.duality.proofs.Outcome.{one_outcome}
use Rattle.injury.specs.Common.{common_rights}
use Rattle.injury.specs.Injuries.{injuries_of, injuries, injured_row, compared_row, comparison_text}
use Rattle.injury.specs.Laws.{ComparisonsHaveOneText}
use Rattle.injury.specs.declared.pair.Pair.{Pair}

-- two lists of records with one outcome
abbrev AreAlike : List MonthRecord → List MonthRecord → Type 0
AreAlike records others = (i : ℕ) (m n : MonthRecord) → slice_get records i ≡ Some m → slice_get others i ≡ Some n →
    HaveSameOutcome m n

month_injuries : (pairs : List Pair) (m m' n n' : MonthRecord) → HaveSameOutcome m m' → HaveSameOutcome n n' →
    injuries_of pairs m n ≡ injuries_of pairs m' n'
month_injuries pairs m m' n n' e f = rw (e.month, e.delivered, f.delivered) refl

same_injuries : (first second : Basin) (records records' others others' : List MonthRecord) →
    length records ≡ length records' → length others ≡ length others' → AreAlike records records' →
    AreAlike others others' →
    injuries first second records others ≡ injuries first second records' others'
unfolding injuries
same_injuries first second [] [] others others' e f h k = refl
same_injuries first second [] (x ∷ xs) others others' e f h k = absurd (omega arith)
same_injuries first second (m ∷ ms) [] others others' e f h k = absurd (omega arith)
same_injuries first second (m ∷ ms) (m' ∷ ms') [] [] e f h k = refl
same_injuries first second (m ∷ ms) (m' ∷ ms') [] (n' ∷ ns') e f h k = absurd (omega arith)
same_injuries first second (m ∷ ms) (m' ∷ ms') (n ∷ ns) [] e f h k = absurd (omega arith)
same_injuries first second (m ∷ ms) (m' ∷ ms') (n ∷ ns) (n' ∷ ns') e f h k =
    ap₂ (λ x y. x ++ y)
    (month_injuries (common_rights first second) m m' n n' (h 0 m m' refl refl) (k 0 n n' refl refl))
    (same_injuries first second ms ms' ns ns' (omega arith) (omega arith) (λ i. h (suc i)) (λ i. k (suc i)))

-- two runs of two basins have one list of injuries
pub one_list : (first second : Basin) (series other : Series) (records records' others others' : List MonthRecord) →
    IsValidBasin first → IsValidBasin second →
    IsHistory first series records → IsHistory first series records' → IsHistory second other others →
    IsHistory second other others' →
    injuries first second records others ≡ injuries first second records' others'
one_list first second series other records records' others others' valid valid' f f' g g' =
    same_injuries first second records records' others others' (f.whole ∙ sym f'.whole) (g.whole ∙ sym g'.whole)
    (one_outcome first series records records' valid f.partial f'.partial (f.whole ∙ sym f'.whole))
    (one_outcome second other others others' valid' g.partial g'.partial (g.whole ∙ sym g'.whole))

pub comparisons_have_one_text : ComparisonsHaveOneText
unfolding comparison_text
comparisons_have_one_text first second series other records records' others others' valid valid' f f' g g' =
    ap (λ all. flat_map (injured_row first) all ++ compared_row (length (common_rights first second)) (length all))
    (one_list first second series other records records' others others' valid valid' f f' g g')
