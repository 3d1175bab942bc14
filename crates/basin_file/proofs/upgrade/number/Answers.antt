use Rattle.std.proofs.Common.{◌∙◌, ap, arith}
use Rattle.std.proofs.lemmas.Int.{to_z_pos}
use Rattle.toml.specs.Data.{integer}
use Rattle.toml.proofs.Views.{view-Integer}
use Rattle.basin_file.proofs.upgrade.number.Goals as goal
use mir.Syntax.{w64}

pub returns : goal.returns
returns c = view-Integer _ ∙ ap integer (to_z_pos w64 c.args.n (omega arith))
