-- Months from 1800-01 to 2999-12, their spelling and their days.
use Rattle.std.specs.Prelude.{ℕ, ◌+◌, ◌-◌, ◌/◌, ◌%◌, ◌≤◌, nat_le, Bool, ◌&&◌, List, ◌∷◌, [], ◌++◌, slice_range, codes}
use Rattle.std.specs.Prelude.{◌==◌, Option, Some, None, if◌then◌else◌, ℤ, pos, ◌-ℤ◌, unsigned_abs}
use Rattle.std.specs.Fmt.{decimal}
use Rattle.std.specs.Str.Parse.{digits_value}
use Rattle.jiff_core.specs.Calendar.{days_from_civil}
use Rattle.water_text.specs.declared.month.Month.{Month}
use Rattle.water_text.specs.Shapes.{has_shape}

-- a month from 1800-01 to 2999-12
pub record IsMonth (m : Month) : Type 0 where
  pub year : (1800 ≤ m.year) × (m.year ≤ 2999)
  pub month : (1 ≤ m.month) × (m.month ≤ 12)

-- the test of it
abbrev pub is_month : Month → Bool
is_month m = (nat_le 1800 m.year && nat_le m.year 2999) && (nat_le 1 m.month && nat_le m.month 12)

-- whether two months are the same: months are distinguished by year and month
abbrev pub is_same_month : Month → Month → Bool
is_same_month m n = m.year == n.year && m.month == n.month

-- the month that a text YYYY-MM spells
unfoldable pub read_month : List ℕ → Option Month
read_month text =
    let m : Month =
    record { year = digits_value 10 (slice_range text 0 4); month = digits_value 10 (slice_range text 5 7) } in
    if has_shape (codes "dddd-dd") text && is_month m then Some m else None

-- YYYY-MM
abbrev pub month_digits : Month → List ℕ
month_digits m = decimal m.year ++ (45 ∷ (48 + m.month / 10) ∷ (48 + m.month % 10) ∷ [])

-- the month n months later
abbrev pub month_after : Month → ℕ → Month
month_after m n = record {
  year = m.year + (m.month - 1 + n) / 12;
  month = (m.month - 1 + n) % 12 + 1;
}

-- the same, where it is not past 2999-12
abbrev pub month_within : Month → ℕ → Option Month
month_within m n = if nat_le (month_after m n).year 2999 then Some (month_after m n) else None

-- the day number of the first of a month
abbrev pub first_day : Month → ℤ
first_day m = days_from_civil (pos m.year) m.month 1

-- the days of a month: from its first to the first of the following month
unfoldable pub days_of : Month → ℕ
days_of m = unsigned_abs (first_day (month_after m 1) -ℤ first_day m)

-- the days of a month of a year
abbrev pub days_in : ℕ → ℕ → ℕ
days_in year month = days_of (record { year = year; month = month })
