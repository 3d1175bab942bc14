-- The days of a month are the difference of two day numbers.
use Rattle.std.proofs.Common.{◌≡◌, ℕ, zero, suc, ◌+◌, ◌-◌, ◌/◌, ◌%◌, ◌≤◌, ℤ, pos, ◌-ℤ◌, ◌+ℤ◌, unsigned_abs, refl, sym}
use Rattle.std.proofs.Common.{ap, ◌∙◌, arith, inl, inr}
use Rattle.std.proofs.lemmas.Int.{ints}
use Rattle.std.proofs.lemmas.Bool.Decides.{nat_tests}
use Rattle.std.proofs.lemmas.Bool.{cases_Bool, cases_lt}
use Rattle.jiff_core.specs.Calendar.{is_leap_year, days_in_year, days_in_month, days_of_years, days_of_months}
use Rattle.jiff_core.specs.Calendar.{day_count, days_from_civil}
use Rattle.water_text.specs.Months.{days_of, days_in}

-- two day numbers differ as the counts do
numbers_differ : (a b c d : ℕ) → a ≡ b + d → unsigned_abs ((pos a -ℤ pos c) -ℤ (pos b -ℤ pos c)) ≡ d
numbers_differ a b c d e = omega (arith, ints)

-- the next month of a year begins as many days later as the month has
within_year : (y : ℤ) (m : ℕ) → day_count y (suc (suc m)) 1 ≡ day_count y (suc m) 1 + days_in_month y (suc m)
unfolding day_count days_of_months
within_year y m =
    let next : suc (suc m) - 1 ≡ suc m = omega arith in
    let this : suc m - 1 ≡ m = omega arith in
    rw (next, this) (omega arith)

-- the days of the first eleven months, and December's
year_of_months : (y : ℤ) → days_in_year y ≡ days_of_months y 11 + days_in_month y 12
unfolding days_of_months
year_of_months y =
    elim (cases_Bool (is_leap_year y)) [
      | inl leap ↦ rw leap refl
      | inr common ↦ rw common refl
    ]

-- the next year begins as many days later as the year has
next_count : (y : ℕ) →
    days_of_years (unsigned_abs (pos (y + 1) +ℤ pos 10000)) ≡ days_of_years
    (unsigned_abs (pos y +ℤ pos 10000)) + days_in_year (pos y)
unfolding days_of_years
next_count y =
    let next : unsigned_abs (pos (y + 1) +ℤ pos 10000) ≡ suc (y + 10000) = omega (arith, ints) in
    let this : unsigned_abs (pos y +ℤ pos 10000) ≡ y + 10000 = omega (arith, ints) in
    let back : pos (y + 10000) -ℤ pos 10000 ≡ pos y = omega (arith, ints) in
    ap days_of_years next ∙ ap (λ z. days_of_years (y + 10000) + days_in_year z) back
    ∙ ap (λ n. days_of_years n + days_in_year (pos y)) (sym this)

-- January begins as many days after December as December has
to_next_year : (y : ℕ) → day_count (pos (y + 1)) 1 1 ≡ day_count (pos y) 12 1 + days_in_month (pos y) 12
unfolding day_count days_of_months
to_next_year y = omega (arith, next_count y, year_of_months (pos y))

-- from the first of a month to the first of another
between : (y m k n d : ℕ) → day_count (pos k) n 1 ≡ day_count (pos y) m 1 + d →
    unsigned_abs (days_from_civil (pos k) n 1 -ℤ days_from_civil (pos y) m 1) ≡ d
unfolding days_from_civil
between y m k n d e = numbers_differ (day_count (pos k) n 1) (day_count (pos y) m 1) (day_count (pos 1970) 1 1) d e

-- the first of the following month stands as many days later as the month has
following : (y m : ℕ) → 1 ≤ m → m ≤ 12 →
    day_count (pos (y + (m - 1 + 1) / 12)) ((m - 1 + 1) % 12 + 1) 1 ≡ day_count (pos y) m 1 + days_in_month (pos y) m
following y zero low high = absurd (omega arith)
following y (suc m) low high =
    elim (cases_lt m 11) [
      | inl before ↦ (
          let year : y + (suc m - 1 + 1) / 12 ≡ y = omega arith in
          let month : (suc m - 1 + 1) % 12 + 1 ≡ suc (suc m) = omega arith in
          rw (year, month) (within_year (pos y) m))
      | inr last ↦ (
          let december : m ≡ 11 = omega arith in
          rw december (to_next_year y))
    ]

-- the days of a month by day numbers are the calendar's
pub days_in-days_in_month : (y m : ℕ) → 1 ≤ m → m ≤ 12 → days_in y m ≡ days_in_month (pos y) m
unfolding days_of
days_in-days_in_month y m low high =
    between y m (y + (m - 1 + 1) / 12) ((m - 1 + 1) % 12 + 1) (days_in_month (pos y) m) (following y m low high)

-- a month has at most 31 days
pub days_in_month-le : (y : ℤ) (m : ℕ) → days_in_month y m ≤ 31
days_in_month-le y m = grind (arith, nat_tests)
