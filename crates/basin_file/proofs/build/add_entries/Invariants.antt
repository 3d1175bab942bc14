use Rattle.std.proofs.Common.{◌≡◌, ◌++◌, drop, map}
use Rattle.toml.specs.View.{items_view}
use Rattle.basin_tree.specs.Documents.{tree_of}
use Rattle.basin_file.specs.Spelled.{rows_after}
use Rattle.basin_file.proofs.build.add_entries.Given as goal

-- what is there and the entries that are left are what was there and all entries
abbrev pub invariant-loop-value : goal.invariant-loop-value
invariant-loop-value g l =
    l.into.items ++ map (g.R.EntryReader.spells (tree_of l.document))
    (rows_after (items_view (drop l.value-index l.values)))
    ≡ l.initial.into.items ++ map (g.R.EntryReader.spells (tree_of l.document)) (rows_after (items_view l.values))
