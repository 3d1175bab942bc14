use Rattle.std.proofs.Common.{sym, ◌∙◌}
use Rattle.basin_cli.proofs.Missing.{name_there, never_none}
use Rattle.basin_cli.proofs.files.missing_inflow.Goals as goal

pub unreachable-requires : goal.unreachable-requires
unreachable-requires c =
    let named = name_there c.args.basin.now c.args.node c.index.result.now c.requires.basin c.index.ensures in
    never_none c.bytes.ensures.value named (sym c.read.ensures ∙ c.in-None.is)
