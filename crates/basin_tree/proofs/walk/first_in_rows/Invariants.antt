use Rattle.std.proofs.Common.{◌≡◌, drop}
use Rattle.std.specs.List.{find}
use Rattle.toml.specs.View.{table_view, items_view}
use Rattle.basin_tree.specs.Entries.{entries_after}
use Rattle.basin_tree.proofs.walk.first_in_rows.Given as goal

-- the first one after the rows so far is the first one of all
abbrev pub invariant-loop-i : goal.invariant-loop-i
invariant-loop-i g l =
    find (g.T.EntryTest.fails (table_view l.document.tree.now))
    (entries_after l.table l.i (items_view (drop l.i l.rows)))
    ≡ find (g.T.EntryTest.fails (table_view l.document.tree.now)) (entries_after l.table 0 (items_view l.rows))
