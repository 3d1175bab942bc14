use Rattle.std.proofs.Common.{ap, ◌∙◌, refl}
use Rattle.toml.specs.Data.{table}
use Rattle.toml.specs.View.{view}
use Rattle.toml.proofs.Views.{view-Table}
use Rattle.basin_file.proofs.Loops.{all_mapped}
use Rattle.basin_file.proofs.upgrade.rows_of.Goals as goal

pub loop-entry-preserved : goal.loop-entry-preserved
loop-entry-preserved g c =
    all_mapped view c.args.entries.now (λ e. table (g.W.RowWriter.table_of c.args.basin.now e)) c.loop-entry.list.items
    c.push.new.self.items c.loop-entry.entry-index c.entry-item.result _ c.loop-entry-test.true c.entry-item.is
    c.in_ok-push.ensures.items
    (view-Table c.in_ok-write.field-0 ∙ ap table c.in_ok-write.ensures)
    c.loop-entry.invariant

pub loop-entry-init : goal.loop-entry-init
loop-entry-init g c = rw c.new-list.ensures.items refl
