-- The entries of a document in their order, and the fault that a test finds.
use Rattle.std.specs.Prelude.{ℕ, ◌+◌, ◌-◌, ◌^◌, min, List, [], ◌∷◌, ◌++◌, unwrap_or, option_and_then, Option, None}
use Rattle.std.specs.List.{flat_map}
use Rattle.std.specs.Option.{option_map_or, option_or}
use Rattle.toml.specs.Data.{Data, Items, no_items, item, Members, get_member, as_array, as_table}
use Rattle.basin_tree.specs.declared.fault.BasinFault.{BasinFault}
use Rattle.basin_tree.specs.declared.tables.BasinTable.{BasinTable}
use Rattle.basin_tree.specs.declared.tables.BasinTable.TheVariants.{Top}
use Rattle.basin_tree.specs.declared.walk.Finding.{Finding}
use Rattle.basin_tree.specs.Tables.{table_name, listed}

-- an entry: its table, its number there from 1, and its keys and values. The top is one entry, with number 0
pub record Entry : Type 0 where
  pub table : BasinTable
  pub number : ℕ
  pub row : Members

-- what a table lists; nothing where its key is absent or no list
abbrev pub items_at : Members → BasinTable → Items
items_at tree table = unwrap_or (option_and_then as_array (get_member (table_name table) tree)) no_items

-- the value as an entry, where it is a table
abbrev pub entry_at : BasinTable → ℕ → Data → List Entry
entry_at table number d =
    option_map_or (λ row. record { table = table; number = number; row = row } ∷ []) (as_table d) []

-- the entries of a list after n others
abbrev pub entries_after : BasinTable → ℕ → Items → List Entry
entries_after table n no_items = []
entries_after table n (item d ds) = entry_at table (n + 1) d ++ entries_after table (n + 1) ds

abbrev pub entries_in : Members → BasinTable → List Entry
entries_in tree table = entries_after table 0 (items_at tree table)

-- all entries, table by table
abbrev pub entries_of : Members → List Entry
entries_of tree = record { table = Top; number = 0; row = tree } ∷ flat_map (entries_in tree) listed

-- a fault at the entry of a table and number. A number past the greatest `u32` is reported as that number
abbrev pub found : BasinFault → BasinTable → ℕ → Finding
found fault table number = record { fault = fault; table = table; entry = min number (2 ^ 32 - 1) }

abbrev pub found_at : BasinFault → Entry → Finding
found_at fault e = found fault e.table e.number

-- the first that a function gives at one of a list
abbrev pub first_some : {A B : Type 0} → (A → Option B) → List A → Option B
first_some f [] = None
first_some f (x ∷ xs) = option_or (f x) (first_some f xs)
