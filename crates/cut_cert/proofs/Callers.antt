-- The first right in the order that calls is the calling right.
use Rattle.std.proofs.Common.{◌≡◌, ℕ, ◌<◌, true, false, sym, ap, ◌∙◌, inl, inr, length}
use Rattle.std.specs.Prelude.{Option, Some, None}
use Rattle.water_model.specs.Basin.{is_senior}
use Rattle.water_model.specs.History.{IsCallingRight, calls, calling_right}
use Rattle.water_model.specs.Indices.{seniors_first}
use Rattle.water_model.specs.Valid.{IsValidBasin}
use Rattle.water_model.specs.declared.types.Basin.{Basin}
use Rattle.water_model.specs.declared.types.MonthRecord.{MonthRecord}
use Rattle.water_model.proofs.Seniority.{not_senior_to_itself, senior_trans}
use Rattle.water_model.proofs.Order.{Has, seniors_have, seniors_below, seniors_ordered, find-passes, find-first}
use Rattle.water_model.proofs.Order.{find-none}

clash : false ≡ true → ⊥
clash e = cc

-- what is found is the calling right
pub calling_right_meaning : (b : Basin) (m : MonthRecord) (right : ℕ) (answer : Option ℕ) → IsValidBasin b →
    answer ≡ calling_right b m right →
    IsCallingRight b m right answer
unfolding calling_right
calling_right_meaning b m right None valid is = record {
  calling = tt;
  first = tt;
  none = λ other l c.
      let found : calls b m right other ≡ false =
      find-none (λ s. calls b m right s) (seniors_first b) other (sym is) (seniors_have b.rights other l) in
      clash (sym found ∙ c);
}
calling_right_meaning b m right (Some caller) valid is = record {
  calling = (seniors_below b.rights caller found.1, found.0);
  first = λ other l c senior. not_first other l c senior;
  none = tt;
}
  where
    found : (calls b m right caller ≡ true) × Has (seniors_first b) caller
    found = find-passes (λ s. calls b m right s) (seniors_first b) caller (sym is)

    no_cycle : (s : ℕ) → is_senior b s s ≡ true → ⊥
    no_cycle s h = let never : is_senior b s s ≡ false = not_senior_to_itself b s in clash (sym never ∙ h)

    not_first : (other : ℕ) → other < length b.rights → calls b m right other ≡ true →
        is_senior b other caller ≡ true → ⊥
    not_first other l c senior =
        elim (find-first b.rights (λ s. calls b m right s) (seniors_first b) caller other
        (seniors_ordered b.rights valid.roll.strict) (sym is) (seniors_have b.rights other l) c) [
          | inl same ↦ no_cycle caller (ap (λ z. is_senior b z caller) (sym same) ∙ senior)
          | inr before ↦ no_cycle caller (senior_trans b.rights caller other caller before senior)
        ]
