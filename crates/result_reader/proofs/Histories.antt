-- Months that follow others are months that a text gives.
use Rattle.std.proofs.Common.{arith, ◌≡◌, ℕ, zero, suc, Bool, true, false, refl, List, [], ◌∷◌}
use Rattle.std.specs.Prelude.{Option, Some, None}
use Rattle.std.specs.List.{list_any}
use Rattle.std.proofs.lemmas.Bool.{and_parts}
use Rattle.water_model.specs.Basin.{taking_node, instream_link}
use Rattle.water_model.specs.Cuts.{separates}
use Rattle.water_model.specs.History.{Follows}
use Rattle.water_model.specs.Lookups.{has}
use Rattle.water_model.specs.declared.types.Basin.{Basin}
use Rattle.water_model.specs.declared.types.Series.{Series}
use Rattle.water_model.specs.declared.types.MonthRecord.{MonthRecord}
use Rattle.result_reader.specs.Records.{HasTextAmounts, IsTextMonth}

has_some : (set : List Bool) (k : ℕ) → has set k ≡ true → list_any (λ in_set. in_set) set ≡ true
has_some [] k h = cc
has_some (true ∷ set) k h = refl
has_some (false ∷ set) zero h = cc
has_some (false ∷ set) (suc k) h = has_some set k h

-- a cut of a right has a node
cut_has_some : (b : Basin) (taking link : Option ℕ) (cut : List Bool) → separates b taking link cut ≡ true →
    list_any (λ in_set. in_set) cut ≡ true
cut_has_some b None None cut h = cc
cut_has_some b (Some node) None cut h = has_some cut node h
cut_has_some b taking (Some link) cut h = grind (arith, has_some, and_parts)

-- a record that follows others is one that a text gives, if its amounts are those of a text
pub IsTextMonth-Follows : (b : Basin) (series : Series) (before : List MonthRecord) (m : MonthRecord) →
    Follows b series before m → HasTextAmounts m → IsTextMonth b series before m
IsTextMonth-Follows b series before m f amounts = record {
  month = f.after;
  sets = record {
    short = λ r l short. (let s = f.short r l short in
        (s.0, s.1, s.2.is_cut.one_each, cut_has_some b (taking_node b r) (instream_link b r) s.0 s.2.is_cut.separates));
    met = f.met;
  };
  amounts = amounts;
}
