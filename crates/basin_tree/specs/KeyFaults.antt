-- Faults of keys and values: whether an entry has them. Each is one test of an entry, given the whole document.
use Rattle.std.specs.Prelude.{ℕ, nat_le, ◌==◌, List, [], ◌∷◌, Bool, false, not, ◌&&◌, ◌||◌, is_some, codes}
use Rattle.std.specs.Prelude.{option_and_then}
use Rattle.std.specs.List.{list_any}
use Rattle.std.specs.Option.{option_map_or}
use Rattle.std.specs.Str.{bytes_eq}
use Rattle.toml.specs.Data.{Data, Members, no_members, member, get_member, as_array}
use Rattle.basin_tree.specs.declared.tables.BasinTable.{BasinTable}
use Rattle.basin_tree.specs.declared.tables.BasinTable.TheVariants.{Top, Link}
use Rattle.basin_tree.specs.declared.tables.Kind.{Kind}
use Rattle.basin_tree.specs.Tables.{KeyRow, keys_of}
use Rattle.basin_tree.specs.Kinds.{has_kind}
use Rattle.toml_tree.specs.Items.{items_len}
use Rattle.toml_tree.specs.Values.{integer_at}
use Rattle.basin_tree.specs.Ranges.{in_range, ends_late}
use Rattle.basin_tree.specs.Entries.{Entry}

abbrev pub names_in : Members → List (List ℕ)
names_in no_members = []
names_in (member name d ms) = name ∷ names_in ms

-- the format of a document: 2 where `format` is this number, and else 1
abbrev pub format_of : Members → ℕ
format_of tree = integer_at (codes "format") 1 2 1 tree

abbrev pub is_known : ℕ → List KeyRow → List ℕ → Bool
is_known format keys name = list_any (λ key. nat_le key.since format && bytes_eq name key.name) keys

-- the row has a key that its table doesn't have in the format
abbrev pub has_unknown : ℕ → BasinTable → Members → Bool
has_unknown format table row = list_any (λ name. not (is_known format (keys_of table) name)) (names_in row)

-- the entry has a key that its table doesn't know in the document's format
abbrev pub unknown_key : Members → Entry → Bool
unknown_key tree e = has_unknown (format_of tree) e.table e.row

abbrev pub lacks_key : BasinTable → Members → Bool
lacks_key table row = list_any (λ key. key.is_required && not (is_some (get_member key.name row))) (keys_of table)

-- `node` is an empty list
abbrev pub has_no_nodes : BasinTable → Members → Bool
has_no_nodes Top row =
    option_map_or (λ items. items_len items == 0) (option_and_then as_array (get_member (codes "node") row)) false
has_no_nodes _ row = false

-- a link says in which months it is shut, but not what it carries a day
abbrev pub shuts_no_canal : BasinTable → Members → Bool
shuts_no_canal Link row =
    is_some (get_member (codes "closed") row) && not (is_some (get_member (codes "per_day") row))
shuts_no_canal _ row = false

-- a key that has to be there is absent, or no node is listed
abbrev pub missing_key : Members → Entry → Bool
missing_key tree e = (lacks_key e.table e.row || has_no_nodes e.table e.row) || shuts_no_canal e.table e.row

-- whether the value at some key of the entry passes a test of the key's kind and the value
abbrev pub any_value : (Kind → Data → Bool) → BasinTable → Members → Bool
any_value test table row =
    list_any (λ key. option_map_or (test key.kind) (get_member key.name row) false) (keys_of table)

-- a value isn't of its key's kind in the document's format
abbrev pub wrong_kind : Members → Entry → Bool
wrong_kind tree e = any_value (λ kind d. not (has_kind (format_of tree) kind d)) e.table e.row

-- the run that the top table describes ends too late
abbrev pub runs_late : BasinTable → Members → Bool
runs_late Top row = ends_late row
runs_late _ row = false

-- a number or month is out of its range, or the run ends too late
abbrev pub out_of_range : Members → Entry → Bool
out_of_range tree e = any_value (λ kind d. not (in_range kind d)) e.table e.row || runs_late e.table e.row
