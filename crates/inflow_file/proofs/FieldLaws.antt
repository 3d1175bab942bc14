-- The fields of a record.
use Rattle.inflow_file.proofs.Words.{◌≡◌, ◌≢◌, ℕ, refl, arith, List, [], ◌∷◌, length, get_or, ap, Err, Basin, as_inflow}
use Rattle.csv.proofs.RecordFacts.{field-get, field-there}
use Rattle.inflow_file.specs.Entries.{read_record}
use Rattle.inflow_file.specs.declared.refused.SeriesFault.TheVariants as fault

pub three_are : (row : List (List ℕ)) → length row ≡ 3 → row ≡ get_or row 0 [] ∷ get_or row 1 [] ∷ get_or row 2 [] ∷ []
three_are [] l = absurd (omega arith)
three_are (x ∷ []) l = absurd (omega arith)
three_are (x ∷ y ∷ []) l = absurd (omega arith)
three_are (x ∷ y ∷ z ∷ []) l = refl
three_are (x ∷ y ∷ z ∷ w ∷ row) l = absurd (omega arith)

pub four_are : (row : List (List ℕ)) → length row ≡ 4 →
    row ≡ get_or row 0 [] ∷ get_or row 1 [] ∷ get_or row 2 [] ∷ get_or row 3 [] ∷ []
four_are [] l = absurd (omega arith)
four_are (x ∷ row) l = ap (λ xs. x ∷ xs) (three_are row (omega arith))

-- a record of another number of fields
pub not_three : (row : List (List ℕ)) → length row ≢ 3 → length (as_inflow row) ≢ 4
not_three [] h e = cc
not_three (x ∷ []) h e = cc
not_three (x ∷ y ∷ []) h e = cc
not_three (x ∷ y ∷ z ∷ []) h e = h refl
not_three (x ∷ y ∷ z ∷ w ∷ row) h e = cc

pub not_four : (b : Basin) (row : List (List ℕ)) → length row ≢ 4 → Err fault.Csv ≡ read_record b row
unfolding read_record
not_four b [] h = refl
not_four b (x ∷ []) h = refl
not_four b (x ∷ y ∷ []) h = refl
not_four b (x ∷ y ∷ z ∷ []) h = refl
not_four b (x ∷ y ∷ z ∷ w ∷ []) h = absurd (h refl)
not_four b (x ∷ y ∷ z ∷ w ∷ v ∷ row) h = refl

pub ruleset fields = (field-get, field-there, three_are, four_are, not_three)
