-- Which values are of a kind.
use Rattle.std.specs.Prelude.{ℕ, nat_le, ◌==◌, List, Bool, false, ◌&&◌, ◌||◌, codes, is_some}
use Rattle.std.specs.Option.{option_map_or}
use Rattle.std.specs.Str.{bytes_eq}
use Rattle.toml.specs.Data.{Data, as_str, as_integer, as_bool, as_array, as_table}
use Rattle.water_text.specs.Shapes.{has_shape}
use Rattle.toml_tree.specs.Items.{items_len, items_all}
use Rattle.basin_tree.specs.declared.tables.Kind.{Kind}
use Rattle.basin_tree.specs.declared.tables.Kind.TheVariants.{Tables, Integer, Truth, Name, Refers, MonthText, DateText}
use Rattle.basin_tree.specs.declared.tables.Kind.TheVariants.{Monthly, Want, CalendarMonths, Inflow, Points}

abbrev pub is_integer_value : Data → Bool
is_integer_value d = is_some (as_integer d)

-- a list of this many values that each pass a test
abbrev pub is_listed : (Data → Bool) → ℕ → Data → Bool
is_listed test len d = option_map_or (λ ds. items_len ds == len && items_all test ds) (as_array d) false

-- one whole number, or twelve
abbrev pub is_monthly : Data → Bool
is_monthly d = is_integer_value d || is_listed is_integer_value 12 d

abbrev pub is_text : (List ℕ → Bool) → Data → Bool
is_text test d = option_map_or test (as_str d) false

-- a list of whole numbers
abbrev pub is_integer_list : Data → Bool
is_integer_list d = option_map_or (items_all is_integer_value) (as_array d) false

-- one whole number or twelve, or in format 2 the text `series`
abbrev pub is_want : ℕ → Data → Bool
is_want format d = is_monthly d || (nat_le 2 format && is_text (bytes_eq (codes "series")) d)

-- whether the value is of the kind, in a document of this format
abbrev pub has_kind : ℕ → Kind → Data → Bool
has_kind format Tables d = option_map_or (items_all (λ x. is_some (as_table x))) (as_array d) false
has_kind format (Integer least most) d = is_integer_value d
has_kind format Truth d = is_some (as_bool d)
has_kind format Name d = is_some (as_str d)
has_kind format (Refers space) d = is_some (as_str d)
has_kind format MonthText d = is_text (has_shape (codes "dddd-dd")) d
has_kind format DateText d = is_text (has_shape (codes "dddd-dd-dd")) d
has_kind format (Monthly most) d = is_monthly d
has_kind format Want d = is_want format d
has_kind format CalendarMonths d = is_integer_list d
has_kind format Inflow d = is_monthly d || is_text (bytes_eq (codes "gauged")) d
has_kind format Points d = option_map_or (items_all (is_listed is_integer_value 2)) (as_array d) false
