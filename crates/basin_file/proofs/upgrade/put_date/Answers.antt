use Rattle.std.proofs.Common.{sym, subst}
use Rattle.std.specs.Str.{IsAscii}
use Rattle.basin_file.proofs.Values.{day_ascii}
use Rattle.basin_file.proofs.upgrade.put_date.Goals as goal

pub put_text-requires : goal.put_text-requires
put_text-requires c = subst IsAscii (sym c.day_text-text.ensures) (day_ascii c.args.date c.requires)
