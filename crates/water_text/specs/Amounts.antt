-- Amounts in decimal digits.
use Rattle.std.specs.Prelude.{ℕ, List, length, slice_index, Bool, ◌&&◌, ◌==◌, nat_le, nat_lt, Option, Some, None}
use Rattle.std.specs.Prelude.{if◌then◌else◌}
use Rattle.std.specs.Str.{all_ascii_digits}
use Rattle.std.specs.Str.Parse.{digits_value}

-- 1 to 19 decimal digits
abbrev pub is_amount : List ℕ → Bool
is_amount text = (nat_le 1 (length text) && nat_le (length text) 19) && all_ascii_digits text

-- their value, where it is at most the limit
unfoldable pub read_amount : List ℕ → ℕ → Option ℕ
read_amount text limit =
    if is_amount text && nat_le (digits_value 10 text) limit then Some (digits_value 10 text) else None

-- a `0` (48) stands before other digits
abbrev pub has_leading_zero : List ℕ → Bool
has_leading_zero text = nat_lt 1 (length text) && slice_index text 0 == 48

-- the value of digits with no leading zero, where it is at most the limit
unfoldable pub read_plain : List ℕ → ℕ → Option ℕ
read_plain text limit = if has_leading_zero text then None else read_amount text limit
