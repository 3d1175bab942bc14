-- Lists and keys in the code beside those of the definitions.
use Rattle.std.proofs.Common.{◌≡◌, ℕ, ◌<◌, List, [], ◌∷◌, length, map, Bool, true, nat_le, ◌&&◌, ◌==◌, not, String}
use Rattle.std.proofs.Common.{Global, string_bytes, Some, refl, ap, arith}
use Rattle.std.specs.List.{list_any, list_all}
use Rattle.std.specs.Map.{keys_of as entry_keys}
use Rattle.std.specs.Option.{option_map_or}
use Rattle.std.specs.Str.{bytes_eq}
use Rattle.toml.specs.Data.{Data, as_array}
use Rattle.toml.specs.View.{view, items_view, members_view}
use Rattle.toml.specs.declared.value.Value.{Value}
use Rattle.toml_tree.specs.Items.{items_all}
use Rattle.toml_tree.proofs.ItemLaws.{items_all-view, items_len-view}
use Rattle.basin_tree.specs.KeyFaults.{names_in, is_known}
use Rattle.basin_tree.specs.Kinds.{is_listed}
use Rattle.basin_tree.specs.Ranges.{pair_in}
use Rattle.basin_tree.specs.Tables.{KeyRow, row_of}
use Rattle.basin_tree.specs.declared.tables.Key.{Key}

pub list_any-map : {X Y : Type 0} (f : X → Y) (p : Y → Bool) (xs : List X) →
    list_any p (map f xs) ≡ list_any (λ x. p (f x)) xs
list_any-map f p [] = refl
list_any-map f p (x ∷ xs) = rw (list_any-map f p xs) refl

names_of_keys : (es : List (String Global × Value)) → names_in (members_view es) ≡ map string_bytes (entry_keys es)
names_of_keys [] = refl
names_of_keys (e ∷ es) = ap (λ names. string_bytes e.0 ∷ names) (names_of_keys es)

-- the unknown keys of a table, by the keys of its map
pub unknown_by : (format : ℕ) (keys : List Key) (rows : List KeyRow) (es : List (String Global × Value)) →
    map row_of keys ≡ rows →
    list_any (λ name. not (is_known format rows name)) (names_in (members_view es))
    ≡ list_any
    (λ name. not (list_any (λ key. nat_le key.since format && bytes_eq (string_bytes name) key.name.now) keys))
    (entry_keys es)
unknown_by format keys rows es e =
    rw (← e) (rw (names_of_keys es, list_any-map string_bytes) (simp (list_any-map row_of) refl))

-- a value that is a list of a given length, by its items
pub listed_by : (test : Data → Bool) (len : ℕ) (d : Data) (vs : List Value) → Some (items_view vs) ≡ as_array d →
    is_listed test len d ≡ (length vs == len && list_all (λ v. test (view v)) vs)
listed_by test len d vs e = rw (← e) (rw (items_len-view vs, items_all-view test vs) refl)

-- a test of all items of a value, or what holds where it is no list
pub all_or : (test : Data → Bool) (other : Bool) (d : Data) (vs : List Value) → Some (items_view vs) ≡ as_array d →
    option_map_or (items_all test) (as_array d) other ≡ list_all (λ v. test (view v)) vs
all_or test other d vs e = rw (← e) (items_all-view test vs)

-- fewer than two items are in every range
pub pair_short : (vs : List Value) → length vs < 2 → true ≡ pair_in (items_view vs)
pair_short [] h = refl
pair_short (v ∷ []) h = refl
pair_short (v ∷ w ∷ vs) h = absurd (omega arith)
