-- A month has an index exactly where the run has it.
use Rattle.std.proofs.Common.{◌≡◌, ℕ, ◌+◌, ◌-◌, ◌<◌, ap, ◌∙◌, arith}
use Rattle.std.specs.Prelude.{Option, Some, None, nat_lt, if◌then◌else◌, ◌↔◌}
use Rattle.std.proofs.lemmas.Bool.Decides.{nat_tests}
use Rattle.water_text.specs.Months.{IsMonth, month_after}
use Rattle.water_text.specs.declared.month.Month.{Month}
use Rattle.water_text.proofs.MonthLaws.{same_month}
use Rattle.water_model.specs.Hydrology.{index_in_run, month_number, run_month}
use Rattle.water_model.specs.Valid.{IsValidBasin}
use Rattle.water_model.specs.declared.types.Basin.{Basin}

index : ℕ → ℕ → ℕ → Option ℕ
index x first n = if nat_lt x first then None else (if nat_lt (x - first) n then Some (x - first) else None)

to_place : (x first n i : ℕ) → index x first n ≡ Some i → (i < n) × (x ≡ first + i)
unfolding index
to_place x first n i h = (grind (arith, nat_tests), grind (arith, nat_tests))

from_place : (x first n i : ℕ) → i < n → x ≡ first + i → index x first n ≡ Some i
unfolding index
from_place x first n i l e = let diff : x - first ≡ i = omega arith in grind (arith, nat_tests)

later_month : (first m : Month) (i : ℕ) → IsMonth first → IsMonth m → month_number m ≡ month_number first + i →
    m ≡ month_after first i
later_month first m i h k e =
    same_month m (month_after first i) (omega (arith, h.month, k.month)) (omega (arith, h.month, k.month))

pub number_after : (first : Month) (i : ℕ) → IsMonth first → month_number (month_after first i) ≡ month_number first + i
number_after first i h = omega (arith, h.month)

pub months_have_their_index : (b : Basin) (m : Month) (i : ℕ) → IsValidBasin b → IsMonth m →
    (index_in_run b m ≡ Some i) ↔ ((i < b.months) × (m ≡ run_month b i))
unfolding index
months_have_their_index b m i valid month = (
  (λ h. let found = to_place (month_number m) (month_number b.first) b.months i h in
      (found.0, later_month b.first m i valid.run.first month found.1)),
  (λ h. from_place (month_number m) (month_number b.first) b.months i h.0
      (ap month_number h.1 ∙ number_after b.first i valid.run.first)),
)
