-- Days of the calendar.
use Rattle.std.specs.Prelude.{ℕ, nat_le, Bool, ◌&&◌, List, slice_range, codes, Option, Some, None, if◌then◌else◌}
use Rattle.std.specs.Str.Parse.{digits_value}
use Rattle.water_text.specs.declared.day.Day.{Day}
use Rattle.water_text.specs.Months.{days_in}
use Rattle.water_text.specs.Shapes.{has_shape}

-- the numbers of a text YYYY-MM-DD
unfoldable pub read_day : List ℕ → Option Day
read_day text =
    if has_shape (codes "dddd-dd-dd") text then Some (record {
      year = digits_value 10 (slice_range text 0 4);
      month = digits_value 10 (slice_range text 5 7);
      day = digits_value 10 (slice_range text 8 10);
    })
    else None

-- a day of the calendar, from the year 1 to 2999
unfoldable pub is_date : Day → Bool
is_date d =
    (nat_le 1 d.year && nat_le d.year 2999) && (nat_le 1 d.month && nat_le d.month 12)
    && (nat_le 1 d.day && nat_le d.day (days_in d.year d.month))
