-- Which values are in the range of their kind. A value that is no number, list or text is in every range.
use Rattle.std.specs.Prelude.{ℕ, ◌^◌, ◌*◌, ◌-◌, Bool, true, false, ◌&&◌, codes, is_some, is_none}
use Rattle.std.specs.Option.{option_map_or}
use Rattle.toml.specs.Data.{Data, Items, item, Members, as_str, as_integer, as_array}
use Rattle.water_text.specs.Months.{read_month, month_within}
use Rattle.basin_tree.specs.declared.tables.Kind.{Kind}
use Rattle.basin_tree.specs.declared.tables.Kind.TheVariants.{Integer, MonthText, Monthly, Want, CalendarMonths, Inflow}
use Rattle.basin_tree.specs.declared.tables.Kind.TheVariants.{Points}
use Rattle.toml_tree.specs.Items.{items_all}
use Rattle.toml_tree.specs.Values.{is_between, integer_at, text_or_empty}

-- the greatest inflow, want, capacity of a day, and area
abbrev pub max_amount : ℕ
max_amount = 10 ^ 9

-- the greatest storage and volume
abbrev pub max_stored : ℕ
max_stored = 16 * 10 ^ 9

abbrev pub number_in : ℕ → ℕ → Data → Bool
number_in least most d = option_map_or (is_between least most) (as_integer d) true

-- each number of the list
abbrev pub listed_in : ℕ → ℕ → Data → Bool
listed_in least most d = option_map_or (items_all (number_in least most)) (as_array d) true

-- the number, or each number of the list
abbrev pub numbers_in : ℕ → Data → Bool
numbers_in most d = number_in 0 most d && listed_in 0 most d

-- a storage and an area
abbrev pub pair_in : Items → Bool
pair_in (item storage (item area ds)) = number_in 0 max_stored storage && number_in 0 max_amount area
pair_in _ = true

abbrev pub points_in : Data → Bool
points_in d = option_map_or (items_all (λ x. option_map_or pair_in (as_array x) true)) (as_array d) true

abbrev pub in_range : Kind → Data → Bool
in_range (Integer least most) d = number_in least most d
in_range (Monthly most) d = numbers_in most d
in_range Want d = numbers_in max_amount d
in_range CalendarMonths d = listed_in 1 12 d
in_range Inflow d = numbers_in max_amount d
in_range MonthText d = option_map_or (λ text. is_some (read_month text)) (as_str d) true
in_range Points d = points_in d
in_range _ d = true

-- whether the run that the top table describes ends after 2999-12
abbrev pub ends_late : Members → Bool
ends_late top =
    option_map_or (λ first. is_none (month_within first (integer_at (codes "months") 1 1200 1 top - 1)))
    (read_month (text_or_empty (codes "first_month") top)) false
