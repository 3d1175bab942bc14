use Rattle.std.proofs.Common.{sym, ◌∙◌}
use Rattle.basin_tree.specs.Documents.{tree_of}
use Rattle.basin_tree.specs.KeyFaults.{format_of}
use Rattle.basin_tree.proofs.Chains.{unknown_by}
use Rattle.basin_tree.proofs.keys.UnknownKeyEntryTest.fails_at.Goals as goal

pub returns : goal.returns
returns c =
    sym (unknown_by (format_of (tree_of c.args.document.now)) c.keys.result.now _ c.args.row.now.entries
    c.keys.ensures ∙ rw (← c.format.ensures) (sym c.has_unknown_key.ensures))
