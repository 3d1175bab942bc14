-- The texts of a list of tables.
use Rattle.std.specs.Prelude.{ℕ, List, [], ◌∷◌, take, count_by, slice_get, Bool, false, Option, option_and_then}
use Rattle.std.specs.Option.{option_map_or}
use Rattle.std.specs.Str.{bytes_eq}
use Rattle.toml.specs.Data.{Items, no_items, item, get, as_str}

-- the texts at a key of the values of a list, one for each, or none where there is no text
abbrev pub texts_after : List ℕ → Items → List (Option (List ℕ))
texts_after key no_items = []
texts_after key (item d ds) = option_and_then as_str (get key d) ∷ texts_after key ds

abbrev pub is_the_text : List ℕ → Option (List ℕ) → Bool
is_the_text q text = option_map_or (bytes_eq q) text false

-- how many of the texts before an index are the one at it
abbrev pub earlier_like : List (Option (List ℕ)) → ℕ → ℕ
earlier_like texts index =
    option_map_or (λ text. option_map_or (λ q. count_by (is_the_text q) (take index texts)) text 0)
    (slice_get texts index) 0
