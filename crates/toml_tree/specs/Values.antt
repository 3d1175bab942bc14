-- The values at the keys of a table. What isn't there, or isn't in its range, has the stated default.
use Rattle.std.specs.Prelude.{ℕ, nat_le, List, [], map, ℤ, pos, negsuc, Bool, false, ◌&&◌, Option, if◌then◌else◌}
use Rattle.std.specs.Prelude.{option_and_then, unwrap_or}
use Rattle.std.specs.List.{range_with_len}
use Rattle.std.specs.Option.{option_map_or}
use Rattle.toml.specs.Data.{Data, get_item, Members, get_member, as_integer, as_str, as_array}

-- whether the number is from the least to the greatest
abbrev pub is_between : ℕ → ℕ → ℤ → Bool
is_between least most (pos n) = nat_le least n && nat_le n most
is_between least most (negsuc n) = false

abbrev pub ranged : ℕ → ℕ → ℕ → ℤ → ℕ
ranged least most default (pos n) = if is_between least most (pos n) then n else default
ranged least most default (negsuc n) = default

-- a whole number, by the least, the greatest and the default
abbrev pub integer_of : ℕ → ℕ → ℕ → Option Data → ℕ
integer_of least most default value = option_map_or (ranged least most default) (option_and_then as_integer value)
    default

abbrev pub integer_at : List ℕ → ℕ → ℕ → ℕ → Members → ℕ
integer_at key least most default row = integer_of least most default (get_member key row)

-- the number for a month, from 0 for January: the value itself, or its item
abbrev pub month_number : ℕ → Option Data → ℕ → ℕ
month_number most value month =
    option_map_or (λ items. integer_of 0 most 0 (get_item month items)) (option_and_then as_array value)
    (integer_of 0 most 0 value)

-- twelve numbers, from January to December
unfoldable pub monthly_of : ℕ → Option Data → List ℕ
monthly_of most value = map (month_number most value) (range_with_len 0 12)

abbrev pub text_at : List ℕ → Members → Option (List ℕ)
text_at key row = option_and_then as_str (get_member key row)

abbrev pub text_or_empty : List ℕ → Members → List ℕ
text_or_empty key row = unwrap_or (text_at key row) []
