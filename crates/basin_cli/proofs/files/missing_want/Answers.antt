use Rattle.std.proofs.Common.{sym, ◌∙◌}
use Rattle.basin_cli.proofs.Missing.{right_named, never_none}
use Rattle.basin_cli.proofs.files.missing_want.Goals as goal

pub unreachable-requires : goal.unreachable-requires
unreachable-requires c =
    let named = right_named c.args.basin.now c.args.right c.index.result.now c.requires.basin c.index.ensures in
    never_none c.bytes.ensures.value named (sym c.read.ensures ∙ c.in-None.is)
