use Rattle.std.proofs.Common.{◌≡◌, ◌++◌, drop, map}
use Rattle.toml.specs.Data.{table}
use Rattle.toml.specs.View.{view}
use Rattle.basin_file.proofs.upgrade.rows_of.Given as goal

abbrev pub invariant-loop-entry : goal.invariant-loop-entry
invariant-loop-entry g l =
    map view l.list.items ++ map (λ e. table (g.W.RowWriter.table_of l.basin e)) (drop l.entry-index l.entries)
    ≡ map (λ e. table (g.W.RowWriter.table_of l.basin e)) l.entries
