-- The table of format 2 that stands for a basin: every key with its value.
use Rattle.std.specs.Prelude.{ℕ, ◌+◌, ◌/◌, ◌%◌, List, [], ◌∷◌, ◌++◌, codes, map, filter, Bool, pos, Option, Some, None}
use Rattle.std.specs.Prelude.{option_map, if◌then◌else◌}
use Rattle.std.specs.Cmp.Lexicographic.{slice_cmp}
use Rattle.std.specs.Ordering.{nat_cmp, match_ordering}
use Rattle.toml.specs.Data.{Data, string, integer, boolean, array, table, Items, no_items, item, Members, no_members}
use Rattle.toml.specs.Data.{member}
use Rattle.toml.specs.View.{items_of}
use Rattle.water_text.specs.declared.day.Day.{Day}
use Rattle.water_text.specs.Months.{month_digits}
use Rattle.water_model.specs.Basin.{node_name, link_name, reservoir_name, right_name}
use Rattle.water_model.specs.declared.types.AreaPoint.{AreaPoint}
use Rattle.water_model.specs.declared.types.Basin.{Basin}
use Rattle.water_model.specs.declared.types.Carry.{Carry}
use Rattle.water_model.specs.declared.types.Carry.TheVariants.{River, Canal}
use Rattle.water_model.specs.declared.types.Inflow.{Inflow}
use Rattle.water_model.specs.declared.types.Inflow.TheVariants.{Monthly, Gauged}
use Rattle.water_model.specs.declared.types.Link as link
use Rattle.water_model.specs.declared.types.Node as node
use Rattle.water_model.specs.declared.types.Reservoir as reservoir
use Rattle.water_model.specs.declared.types.ReturnRow.{ReturnRow}
use Rattle.water_model.specs.declared.types.Right.{Right}
use Rattle.water_model.specs.declared.types.RightKind.{RightKind}
use Rattle.water_model.specs.declared.types.RightKind.TheVariants as kind
use Rattle.water_model.specs.declared.types.Want.{Want}
use Rattle.water_model.specs.declared.types.Want.TheVariants as wants
use Rattle.basin_tree.specs.declared.tables.BasinTable.{BasinTable}
use Rattle.basin_tree.specs.declared.tables.BasinTable.TheVariants.{Diversion, Instream, Zone}
use Rattle.basin_file.specs.BasinFaults.{is_in_table}

-- the table with a key and its value, where the order has the key. A key that is there gets the value
abbrev pub with_member : List ℕ → Data → Members → Members
with_member key d no_members = member key d no_members
with_member key d (member other e rest) =
    match_ordering (slice_cmp nat_cmp key other) (member key d (member other e rest)) (member other d rest)
    (member other e (with_member key d rest))

-- the same where there is a value
abbrev pub with_option : List ℕ → Option Data → Members → Members
with_option key None rest = rest
with_option key (Some d) rest = with_member key d rest

-- before others a key that stands only where it has a value
abbrev pub with_some : List ℕ → Option Data → Members → Members
with_some key None rest = rest
with_some key (Some d) rest = member key d rest

-- a key, and its value if it has one
abbrev pub Keyed : Type 0
Keyed = List ℕ × Option Data

-- the table of some keys, in their order
abbrev pub row_of : List Keyed → Members
row_of [] = no_members
row_of (f ∷ fs) = with_some f.0 f.1 (row_of fs)

abbrev pub two_digits : ℕ → List ℕ
two_digits n = (48 + n / 10) ∷ (48 + n % 10) ∷ []

-- YYYY-MM-DD
unfoldable pub day_text : Day → List ℕ
day_text d = two_digits (d.year / 100) ++ two_digits (d.year % 100) ++ 45 ∷ two_digits d.month ++ 45 ∷ two_digits d.day

abbrev pub number : ℕ → Data
number n = integer (pos n)

abbrev pub numbers : List ℕ → Items
numbers ns = items_of (map number ns)

abbrev pub inflow_data : Inflow → Data
inflow_data (Monthly amounts) = array (numbers amounts)
inflow_data Gauged = string (codes "gauged")

abbrev pub node_row : node.Node → Members
node_row n = row_of (
    (codes "inflow", Some (inflow_data n.inflow)) ∷ (codes "name", Some (string n.name))
    ∷ (codes "outlet", Some (boolean n.outlet)) ∷ [])

-- the calendar months in which a canal is shut, in rising order, where the list begins with this month
abbrev pub shut_months : ℕ → List Bool → List ℕ
shut_months month [] = []
shut_months month (shut ∷ more) = if shut then month ∷ shut_months (month + 1) more else shut_months (month + 1) more

-- a list that is empty doesn't stand
abbrev pub some_items : Items → Option Data
some_items no_items = None
some_items (item d ds) = Some (array (item d ds))

-- a canal that is never shut doesn't say so
abbrev pub closed_data : Carry → Option Data
closed_data River = None
closed_data (Canal per_day shut) = some_items (numbers (shut_months 1 shut))

-- a river has no amount a day
abbrev pub per_day_data : Carry → Option Data
per_day_data River = None
per_day_data (Canal per_day shut) = Some (number per_day)

abbrev pub link_keys : Basin → link.Link → List Keyed
link_keys b l =
    (codes "closed", closed_data l.carry) ∷ (codes "from", Some (string (node_name b l.from)))
    ∷ (codes "name", Some (string l.name)) ∷ (codes "per_day", per_day_data l.carry)
    ∷ (codes "to", Some (string (node_name b l.to))) ∷ []

abbrev pub link_row : Basin → link.Link → Members
link_row b l = row_of (link_keys b l)

abbrev pub point_data : AreaPoint → Data
point_data p = array (numbers (p.storage ∷ p.area ∷ []))

-- a reservoir is named by its node
abbrev pub reservoir_row : Basin → reservoir.Reservoir → Members
reservoir_row b v = row_of (
    (codes "area", Some (array (items_of (map point_data v.area))))
    ∷ (codes "node", Some (string (node_name b v.node))) ∷ (codes "opening", Some (number v.opening))
    ∷ (codes "rate", Some (array (numbers v.rate))) ∷ [])

abbrev pub want_data : Want → Data
want_data (wants.Monthly amounts) = array (numbers amounts)
want_data wants.Series = string (codes "series")

abbrev pub keys_of_kind : Basin → Right → RightKind → List Keyed
keys_of_kind b r (kind.Diversion node) =
    (codes "date", Some (string (day_text r.date))) ∷ (codes "name", Some (string r.name))
    ∷ (codes "node", Some (string (node_name b node))) ∷ (codes "order", Some (number r.order))
    ∷ (codes "volume", option_map number r.volume) ∷ (codes "want", Some (want_data r.want)) ∷ []
keys_of_kind b r (kind.Instream link) =
    (codes "date", Some (string (day_text r.date))) ∷ (codes "link", Some (string (link_name b link)))
    ∷ (codes "name", Some (string r.name)) ∷ (codes "order", Some (number r.order))
    ∷ (codes "want", Some (want_data r.want)) ∷ []
keys_of_kind b r (kind.Zone reservoir level) =
    (codes "date", Some (string (day_text r.date))) ∷ (codes "level", Some (number level))
    ∷ (codes "name", Some (string r.name)) ∷ (codes "order", Some (number r.order))
    ∷ (codes "reservoir", Some (string (reservoir_name b reservoir))) ∷ (codes "want", Some (want_data r.want)) ∷ []

abbrev pub row_of_kind : Basin → Right → RightKind → Members
row_of_kind b r its = row_of (keys_of_kind b r its)

abbrev pub right_row : Basin → Right → Members
right_row b r = row_of_kind b r r.kind

abbrev pub return_row : Basin → ReturnRow → Members
return_row b row = row_of (
    (codes "diversion", Some (string (right_name b row.right))) ∷ (codes "lag", Some (number row.lag))
    ∷ (codes "node", Some (string (node_name b row.node))) ∷ (codes "part", Some (number row.part)) ∷ [])

-- the rights of a table, in their order
abbrev pub rights_in : BasinTable → List Right → List Right
rights_in which rights = filter (λ r. is_in_table which r.kind) rights

-- the entries of a table
abbrev pub listed : {X : Type 0} → (X → Members) → List X → Option Data
listed row entries = some_items (items_of (map (λ x. table (row x)) entries))

-- the whole table
abbrev pub top_keys : Basin → List Keyed
top_keys b =
    (codes "diversion", listed (right_row b) (rights_in Diversion b.rights))
    ∷ (codes "first_month", Some (string (month_digits b.first))) ∷ (codes "format", Some (number 2))
    ∷ (codes "instream", listed (right_row b) (rights_in Instream b.rights))
    ∷ (codes "link", listed (link_row b) b.links) ∷ (codes "months", Some (number b.months))
    ∷ (codes "node", listed node_row b.nodes) ∷ (codes "reservoir", listed (reservoir_row b) b.reservoirs)
    ∷ (codes "return", listed (return_row b) b.returns) ∷ (codes "year_start", Some (number b.year_start))
    ∷ (codes "zone", listed (right_row b) (rights_in Zone b.rights)) ∷ []

unfoldable pub basin_table : Basin → Members
basin_table b = row_of (top_keys b)
