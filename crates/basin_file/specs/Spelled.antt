-- The basin that a document spells. What can't be there in a document without a fault has a default.
use Rattle.std.specs.Prelude.{◌≡◌, ◌≤◌, ℕ, ◌^◌, ◌||◌, ◌==◌, ◌+◌, nat_lt, List, [], ◌∷◌, ◌++◌, map, replicate, Bool, true}
use Rattle.std.specs.Prelude.{false, Option}
use Rattle.std.specs.Prelude.{Some, None, if◌then◌else◌, option_map, option_and_then, option_to_list, unwrap_or, codes}
use Rattle.std.specs.List.{range_with_len}
use Rattle.std.specs.Option.{option_map_or}
use Rattle.toml.specs.Data.{Data, Items, no_items, item, get_item, Members, get_member, as_bool, as_str, as_array}
use Rattle.toml.specs.Data.{as_table}
use Rattle.toml_tree.specs.Values.{integer_of, integer_at, monthly_of, text_or_empty}
use Rattle.water_text.specs.Days.{read_day}
use Rattle.water_text.specs.Months.{read_month}
use Rattle.water_text.specs.Names.{is_name}
use Rattle.water_text.specs.declared.day.Day.{Day}
use Rattle.water_text.specs.declared.month.Month.{Month}
use Rattle.basin_tree.specs.Ranges.{max_amount, max_stored}
use Rattle.water_model.specs.declared.types.AreaPoint.{AreaPoint}
use Rattle.water_model.specs.declared.types.Basin.{Basin}
use Rattle.water_model.specs.declared.types.Carry.{Carry}
use Rattle.water_model.specs.declared.types.Carry.TheVariants.{River, Canal}
use Rattle.water_model.specs.declared.types.Inflow.{Inflow}
use Rattle.water_model.specs.declared.types.Inflow.TheVariants.{Monthly, Gauged}
use Rattle.water_model.specs.declared.types.Link as link
use Rattle.water_model.specs.declared.types.Node as node
use Rattle.water_model.specs.declared.types.Reservoir as reservoir
use Rattle.water_model.specs.declared.types.ReturnRow.{ReturnRow}
use Rattle.water_model.specs.declared.types.Right.{Right}
use Rattle.water_model.specs.declared.types.RightKind.{RightKind}
use Rattle.water_model.specs.declared.types.RightKind.TheVariants as kind
use Rattle.water_model.specs.declared.types.Want.{Want}
use Rattle.water_model.specs.declared.types.Want.TheVariants as wants
use Rattle.basin_tree.specs.Entries.{items_at}
use Rattle.basin_tree.specs.KeyFaults.{format_of}
use Rattle.basin_tree.specs.Indices.{named_at}
use Rattle.basin_tree.specs.declared.tables.BasinTable.{BasinTable}
use Rattle.basin_tree.specs.declared.tables.BasinTable.TheVariants.{Node, Link, Reservoir, Diversion, Instream, Zone}
use Rattle.basin_tree.specs.declared.tables.BasinTable.TheVariants.{Return}
use Rattle.basin_tree.specs.declared.tables.Space.{Space}
use Rattle.basin_tree.specs.declared.tables.Space.TheVariants.{Nodes, Links, Reservoirs, Diversions}

-- the tables in a list
abbrev pub rows_after : Items → List Members
rows_after no_items = []
rows_after (item d ds) = option_to_list (as_table d) ++ rows_after ds

-- the entries of a table, each by its keys and values
abbrev pub rows_in : Members → BasinTable → List Members
rows_in tree table = rows_after (items_at tree table)

abbrev pub name_of : List ℕ → List ℕ
name_of text = if is_name text then text else codes "-"

abbrev pub name_at : List ℕ → Members → List ℕ
name_at key row = name_of (text_or_empty key row)

abbrev pub truth_at : List ℕ → Members → Bool
truth_at key row = unwrap_or (option_and_then as_bool (get_member key row)) false

-- the index, from 0, of the entry that the text at a key names
abbrev pub small : ℕ → ℕ
small at = if nat_lt at (2 ^ 32) then at else 0

abbrev pub number_at : Members → Space → List ℕ → Members → ℕ
number_at tree space key row = option_map_or small (named_at tree space (text_or_empty key row)) 0

-- the month of a text YYYY-MM
abbrev pub first_of : List ℕ → Month
first_of text = unwrap_or (read_month text) (record { year = 1800; month = 1 })

-- the day of a text YYYY-MM-DD
abbrev pub date_of : List ℕ → Day
date_of text = unwrap_or (read_day text) (record { year = 0; month = 0; day = 0 })

-- a text stands for a gauge
abbrev pub inflow_of : Option Data → Inflow
inflow_of value = option_map_or (λ text. Gauged) (option_and_then as_str value) (Monthly (monthly_of max_amount value))

abbrev pub items_any : (Data → Bool) → Items → Bool
items_any test no_items = false
items_any test (item d ds) = test d || items_any test ds

-- whether a list of calendar months has a month, from 1 for January
abbrev pub lists_month : ℕ → Data → Bool
lists_month month d = option_map_or (items_any (λ x. integer_of 1 12 0 (Some x) == month)) (as_array d) false

-- for each calendar month whether a canal is shut in it. A canal that doesn't say so never is
unfoldable pub shut_of : Option Data → List Bool
shut_of closed = map (λ i. option_map_or (lists_month (i + 1)) closed false) (range_with_len 0 12)

-- a link that gives no amount a day is a river
abbrev pub carry_of : Option Data → Option Data → Carry
carry_of per_day closed = option_map_or (λ d. Canal (integer_of 0 max_amount 0 (Some d)) (shut_of closed)) per_day River

abbrev pub point_in : Items → AreaPoint
point_in pair = record {
  storage = integer_of 0 max_stored 0 (get_item 0 pair);
  area = integer_of 0 max_amount 0 (get_item 1 pair);
}

abbrev pub points_in : Items → List AreaPoint
points_in no_items = []
points_in (item d ds) = point_in (unwrap_or (as_array d) no_items) ∷ points_in ds

-- the area table of a reservoir that gives none
abbrev pub no_area : List AreaPoint
no_area = record { storage = 0; area = 0 } ∷ []

abbrev pub area_of : Option Data → List AreaPoint
area_of value = option_map_or points_in (option_and_then as_array value) no_area

abbrev pub node_of : Members → node.Node
node_of row = record {
  name = name_at (codes "name") row;
  outlet = truth_at (codes "outlet") row;
  inflow = inflow_of (get_member (codes "inflow") row);
}

abbrev pub link_of : Members → Members → link.Link
link_of tree row = record {
  name = name_at (codes "name") row;
  from = number_at tree Nodes (codes "from") row;
  to = number_at tree Nodes (codes "to") row;
  carry = carry_of (get_member (codes "per_day") row) (get_member (codes "closed") row);
}

abbrev pub reservoir_of : Members → Members → reservoir.Reservoir
reservoir_of tree row = record {
  node = number_at tree Nodes (codes "node") row;
  opening = integer_at (codes "opening") 0 max_stored 0 row;
  area = area_of (get_member (codes "area") row);
  rate = monthly_of 10000 (get_member (codes "rate") row);
}

-- a diversion that gives no volume has none
abbrev pub volume_of : Option Data → Option ℕ
volume_of value = option_map (λ d. integer_of 0 max_stored 0 (Some d)) value

-- a text stands for wants in the series
abbrev pub want_of : Option Data → Want
want_of value =
    option_map_or (λ text. wants.Series) (option_and_then as_str value) (wants.Monthly (monthly_of max_amount value))

abbrev pub right_of : RightKind → Option ℕ → Members → Right
right_of kind volume row = record {
  name = name_at (codes "name") row;
  date = date_of (text_or_empty (codes "date") row);
  order = integer_at (codes "order") 0 1000000 0 row;
  kind = kind;
  want = want_of (get_member (codes "want") row);
  volume = volume;
  used = 0;
  season = replicate 12 true;
}

abbrev pub diversion_of : Members → Members → Right
diversion_of tree row =
    right_of (kind.Diversion (number_at tree Nodes (codes "node") row)) (volume_of (get_member (codes "volume") row))
    row

abbrev pub instream_of : Members → Members → Right
instream_of tree row = right_of (kind.Instream (number_at tree Links (codes "link") row)) None row

abbrev pub zone_of : Members → Members → Right
zone_of tree row =
    right_of (kind.Zone (number_at tree Reservoirs (codes "reservoir") row) (integer_at (codes "level") 1 16 1 row))
    None
    row

-- diversions are the first rights, so the index of a diversion is that of its right
abbrev pub return_of : Members → Members → ReturnRow
return_of tree row = record {
  right = number_at tree Diversions (codes "diversion") row;
  node = number_at tree Nodes (codes "node") row;
  part = integer_at (codes "part") 1 10000 1 row;
  lag = integer_at (codes "lag") 1 120 1 row;
  rest = 0;
}

abbrev pub rights_of : Members → List Right
rights_of tree =
    map (diversion_of tree) (rows_in tree Diversion) ++ map (instream_of tree) (rows_in tree Instream)
    ++ map (zone_of tree) (rows_in tree Zone)

-- the basin. Where nothing is said of it, a water year begins with October
abbrev pub basin_of : Members → Basin
basin_of tree = record {
  format = format_of tree;
  unit = None;
  first = first_of (text_or_empty (codes "first_month") tree);
  months = integer_at (codes "months") 1 1200 1 tree;
  year_start = integer_at (codes "year_start") 1 12 10 tree;
  nodes = map node_of (rows_in tree Node);
  links = map (link_of tree) (rows_in tree Link);
  reservoirs = map (reservoir_of tree) (rows_in tree Reservoir);
  rights = rights_of tree;
  returns = map (return_of tree) (rows_in tree Return);
  due = [];
  accounts = [];
  draws = [];
}

-- the basins that files spell: of format 1 or 2, so that no stored water is an owner's and nothing is known of the time
-- before the run
pub record IsPlain (b : Basin) : Type 0 where
  pub format : b.format ≤ 2
  pub due : b.due ≡ []
