-- The items of a list.
use Rattle.std.specs.Prelude.{ℕ, suc, Bool, true, ◌&&◌}
use Rattle.toml.specs.Data.{Data, Items, no_items, item}

abbrev pub items_len : Items → ℕ
items_len no_items = 0
items_len (item d ds) = suc (items_len ds)

abbrev pub items_all : (Data → Bool) → Items → Bool
items_all test no_items = true
items_all test (item d ds) = test d && items_all test ds
