-- Faults of names and counts: whether an entry has them. Each is one test of an entry, given the whole document.
use Rattle.std.specs.Prelude.{ℕ, ◌+◌, ◌-◌, nat_lt, nat_le, List, Bool, false, not, is_some, codes, Option, None, Some}
use Rattle.std.specs.Prelude.{option_and_then}
use Rattle.std.specs.Option.{option_map_or}
use Rattle.toml.specs.Data.{Data, Members, get_member, get_item, get, as_str, as_array, as_bool}
use Rattle.water_text.specs.Names.{is_name}
use Rattle.basin_tree.specs.declared.tables.BasinTable.{BasinTable}
use Rattle.basin_tree.specs.declared.tables.BasinTable.TheVariants.{Top, Node, Link, Reservoir, Diversion, Instream}
use Rattle.basin_tree.specs.declared.tables.BasinTable.TheVariants.{Zone, Return}
use Rattle.basin_tree.specs.declared.tables.Space.{Space}
use Rattle.basin_tree.specs.declared.tables.Space.TheVariants.{Nodes, Links, Reservoirs, Rights}
use Rattle.basin_tree.specs.declared.tables.Kind.{Kind}
use Rattle.basin_tree.specs.declared.tables.Kind.TheVariants.{Name, Refers}
use Rattle.toml_tree.specs.Items.{items_len}
use Rattle.toml_tree.specs.Texts.{texts_after, earlier_like}
use Rattle.toml_tree.specs.Values.{text_at}
use Rattle.basin_tree.specs.Entries.{Entry, items_at}
use Rattle.basin_tree.specs.KeyFaults.{any_value}
use Rattle.basin_tree.specs.Indices.{own_key, named_at}

abbrev pub is_bad_name : Kind → Data → Bool
is_bad_name Name d = option_map_or (λ text. not (is_name text)) (as_str d) false
is_bad_name _ d = false

-- a text that should be a name is none
abbrev pub bad_name : Members → Entry → Bool
bad_name tree e = any_value is_bad_name e.table e.row

-- how many rights stand in the tables before this one
abbrev pub rights_before : Members → BasinTable → ℕ
rights_before tree Instream = items_len (items_at tree Diversion)
rights_before tree Zone = items_len (items_at tree Diversion) + items_len (items_at tree Instream)
rights_before tree _ = 0

-- more than 64 points at `area`
abbrev pub has_many_points : Members → Bool
has_many_points row =
    option_map_or (λ points. nat_lt 64 (items_len points)) (option_and_then as_array (get_member (codes "area") row))
    false

abbrev pub is_past_limit : BasinTable → Members → Entry → Bool
is_past_limit Top tree e = false
is_past_limit Node tree e = nat_lt 2000 e.number
is_past_limit Link tree e = nat_lt 4000 e.number
is_past_limit Reservoir tree e = has_many_points e.row
is_past_limit Diversion tree e = nat_lt 2000 (rights_before tree Diversion + e.number)
is_past_limit Instream tree e = nat_lt 2000 (rights_before tree Instream + e.number)
is_past_limit Zone tree e = nat_lt 2000 (rights_before tree Zone + e.number)
is_past_limit Return tree e =
    nat_le 8 (earlier_like (texts_after (codes "diversion") (items_at tree Return)) (e.number - 1))

-- the entry is past the limit of its table, or, of a reservoir, has too many points
abbrev pub too_many : Members → Entry → Bool
too_many tree e = is_past_limit e.table tree e

-- the space in which the entries of a table have their names
abbrev pub own_space : BasinTable → Option Space
own_space Top = None
own_space Node = Some Nodes
own_space Link = Some Links
own_space Reservoir = Some Reservoirs
own_space Diversion = Some Rights
own_space Instream = Some Rights
own_space Zone = Some Rights
own_space Return = None

-- an entry before this index of the space has the text as its name
abbrev pub stands_before : Members → Space → ℕ → List ℕ → Bool
stands_before tree space index text = option_map_or (λ at. nat_lt at index) (named_at tree space text) false

abbrev pub repeats_name : Members → Entry → Space → Bool
repeats_name tree e space =
    option_map_or (stands_before tree space (rights_before tree e.table + (e.number - 1)))
    (text_at (own_key e.table) e.row) false

-- an earlier entry of the same space has the name
abbrev pub same_name : Members → Entry → Bool
same_name tree e = option_map_or (repeats_name tree e) (own_space e.table) false

abbrev pub names_none : Members → Kind → Data → Bool
names_none tree (Refers space) d = option_map_or (λ text. not (is_some (named_at tree space text))) (as_str d) false
names_none tree _ d = false

-- a text that should name an entry names none
abbrev pub no_such_name : Members → Entry → Bool
no_such_name tree e = any_value (names_none tree) e.table e.row

-- the node at an index of its list is an outlet
abbrev pub is_outlet_at : Members → ℕ → Bool
is_outlet_at tree at =
    option_map_or (λ outlet. outlet)
    (option_and_then as_bool (option_and_then (get (codes "outlet")) (get_item at (items_at tree Node)))) false

abbrev pub stands_at_outlet : BasinTable → Members → Members → Bool
stands_at_outlet Reservoir tree row =
    option_map_or (λ text. option_map_or (is_outlet_at tree) (named_at tree Nodes text) false)
    (text_at (codes "node") row) false
stands_at_outlet _ tree row = false

-- a reservoir stands at an outlet
abbrev pub outlet_reservoir : Members → Entry → Bool
outlet_reservoir tree e = stands_at_outlet e.table tree e.row
