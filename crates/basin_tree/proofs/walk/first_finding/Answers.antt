use Rattle.std.proofs.Common.{sym, ◌∙◌}
use Rattle.basin_tree.specs.Documents.{tree_of}
use Rattle.basin_tree.specs.Entries.{entries_in, found_at}
use Rattle.basin_tree.specs.Tables.{listed}
use Rattle.basin_tree.proofs.Firsts.{first_of_lists}
use Rattle.basin_tree.proofs.walk.first_finding.Goals as goal

pub returns : goal.returns
returns g c =
    rw (sym c.fails_at.ensures ∙ c.if-fails_at.false)
    (c.first_listed.ensures ∙ first_of_lists (found_at c.args.fault) (g.T.EntryTest.fails (tree_of c.args.document.now))
    (entries_in (tree_of c.args.document.now)) listed)
