-- The order of faults: one definition over any list of tests, and the list.
use Rattle.std.specs.Prelude.{List, [], ◌∷◌, Bool, Option, None, option_map}
use Rattle.std.specs.List.{find}
use Rattle.std.specs.Option.{option_or}
use Rattle.toml.specs.Data.{Members}
use Rattle.basin_tree.specs.declared.fault.BasinFault.{BasinFault}
use Rattle.basin_tree.specs.declared.fault.BasinFault.TheVariants.{UnknownKey, MissingKey, WrongKind, OutOfRange}
use Rattle.basin_tree.specs.declared.fault.BasinFault.TheVariants.{BadName, TooMany, SameName, NoSuchName}
use Rattle.basin_tree.specs.declared.fault.BasinFault.TheVariants.{OutletReservoir}
use Rattle.basin_tree.specs.declared.walk.Finding.{Finding}
use Rattle.basin_tree.specs.Entries.{Entry, entries_of, found_at}
use Rattle.basin_tree.specs.KeyFaults.{unknown_key, missing_key, wrong_kind, out_of_range}
use Rattle.basin_tree.specs.NameFaults.{bad_name, too_many, same_name, no_such_name, outlet_reservoir}

-- a fault, and the test of an entry, given the whole document, that says whether the entry has it
abbrev pub Pass : Type 0
Pass = BasinFault × (Members → Entry → Bool)

-- the first entry that fails the test
abbrev pub found_by : Pass → Members → Option Finding
found_by pass tree = option_map (found_at pass.0) (find (pass.1 tree) (entries_of tree))

-- the first pass that finds something decides
abbrev pub first_fault : List Pass → Members → Option Finding
first_fault [] tree = None
first_fault (pass ∷ passes) tree = option_or (found_by pass tree) (first_fault passes tree)

abbrev pub passes : List Pass
passes =
    (UnknownKey, unknown_key) ∷ (MissingKey, missing_key) ∷ (WrongKind, wrong_kind) ∷ (OutOfRange, out_of_range)
    ∷ (BadName, bad_name) ∷ (TooMany, too_many) ∷ (SameName, same_name) ∷ (NoSuchName, no_such_name)
    ∷ (OutletReservoir, outlet_reservoir) ∷ []

-- the first fault of a document by itself, before its network, its rights and its area tables are looked at
unfoldable pub tree_fault : Members → Option Finding
tree_fault tree = first_fault passes tree
