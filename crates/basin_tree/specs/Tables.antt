-- The tables of a basin file and the keys of each.
use Rattle.std.specs.Prelude.{ℕ, List, [], ◌∷◌, Bool, true, false, codes}
use Rattle.basin_tree.specs.declared.tables.BasinTable.{BasinTable}
use Rattle.basin_tree.specs.declared.tables.BasinTable.TheVariants.{Top, Node, Link, Reservoir, Diversion, Instream}
use Rattle.basin_tree.specs.declared.tables.BasinTable.TheVariants.{Zone, Return}
use Rattle.basin_tree.specs.declared.tables.Key.{Key}
use Rattle.basin_tree.specs.declared.tables.Kind.{Kind}
use Rattle.basin_tree.specs.declared.tables.Kind.TheVariants.{Tables, Integer, Truth, Name, Refers, MonthText, DateText}
use Rattle.basin_tree.specs.declared.tables.Kind.TheVariants.{Monthly, Want, CalendarMonths, Inflow, Points}
use Rattle.basin_tree.specs.Ranges.{max_amount, max_stored}
use Rattle.basin_tree.specs.declared.tables.Space.TheVariants.{Nodes, Links, Reservoirs, Diversions}

-- the word for a table. The entries of each but the top are listed at this key of the top table
abbrev pub table_name : BasinTable → List ℕ
table_name Top = codes "top"
table_name Node = codes "node"
table_name Link = codes "link"
table_name Reservoir = codes "reservoir"
table_name Diversion = codes "diversion"
table_name Instream = codes "instream"
table_name Zone = codes "zone"
table_name Return = codes "return"

-- the tables after the top, in their order
abbrev pub listed : List BasinTable
listed = Node ∷ Link ∷ Reservoir ∷ Diversion ∷ Instream ∷ Zone ∷ Return ∷ []

-- a key of a table: whether it has to be there, what its value has to be, and the first format that has it
pub record KeyRow : Type 0 where
  pub name : List ℕ
  pub is_required : Bool
  pub kind : Kind
  pub since : ℕ

-- a key without where its name lies in memory
abbrev pub row_of : Key → KeyRow
row_of key = record { name = key.name.now; is_required = key.is_required; kind = key.kind; since = key.since }

abbrev pub required : List ℕ → Kind → KeyRow
required name kind = record { name = name; is_required = true; kind = kind; since = 1 }

abbrev pub optional : List ℕ → Kind → KeyRow
optional name kind = record { name = name; is_required = false; kind = kind; since = 1 }

-- a key that format 2 has besides
abbrev pub second : List ℕ → Kind → KeyRow
second name kind = record { name = name; is_required = false; kind = kind; since = 2 }

-- the keys of each table. `Integer` has the least and the greatest number, `Monthly` the greatest
abbrev pub keys_of : BasinTable → List KeyRow
keys_of Top =
    required (codes "format") (Integer 1 2) ∷ required (codes "first_month") MonthText
    ∷ required (codes "months") (Integer 1 1200) ∷ required (codes "node") Tables ∷ optional (codes "link") Tables
    ∷ optional (codes "reservoir") Tables ∷ optional (codes "diversion") Tables ∷ optional (codes "instream") Tables
    ∷ optional (codes "zone") Tables ∷ optional (codes "return") Tables ∷ second (codes "year_start") (Integer 1 12)
    ∷ []
keys_of Node =
    required (codes "name") Name ∷ optional (codes "outlet") Truth ∷ optional (codes "inflow") Inflow ∷ []
keys_of Link =
    required (codes "name") Name ∷ required (codes "from") (Refers Nodes) ∷ required (codes "to") (Refers Nodes)
    ∷ optional (codes "per_day") (Integer 0 max_amount) ∷ second (codes "closed") CalendarMonths ∷ []
keys_of Reservoir =
    required (codes "node") (Refers Nodes) ∷ required (codes "opening") (Integer 0 max_stored)
    ∷ optional (codes "area") Points ∷ optional (codes "rate") (Monthly 10000) ∷ []
keys_of Diversion =
    required (codes "name") Name ∷ required (codes "node") (Refers Nodes) ∷ required (codes "date") DateText
    ∷ required (codes "want") Want ∷ optional (codes "order") (Integer 0 1000000)
    ∷ second (codes "volume") (Integer 0 max_stored) ∷ []
keys_of Instream =
    required (codes "name") Name ∷ required (codes "link") (Refers Links) ∷ required (codes "date") DateText
    ∷ required (codes "want") Want ∷ optional (codes "order") (Integer 0 1000000) ∷ []
keys_of Zone =
    required (codes "name") Name ∷ required (codes "reservoir") (Refers Reservoirs)
    ∷ required (codes "level") (Integer 1 16) ∷ required (codes "date") DateText
    ∷ required (codes "want") Want ∷ optional (codes "order") (Integer 0 1000000) ∷ []
keys_of Return =
    required (codes "diversion") (Refers Diversions) ∷ required (codes "node") (Refers Nodes)
    ∷ required (codes "part") (Integer 1 10000) ∷ required (codes "lag") (Integer 1 120) ∷ []
