use Rattle.std.proofs.Common.{arith}
use Rattle.basin_file.proofs.Values.{short_date}
use Rattle.basin_file.proofs.upgrade.day_text.Goals as goal

pub two_digits-requires : goal.two_digits-requires
two_digits-requires c = let its = short_date c.args.day c.requires in omega (arith, its.year)

pub two_digits-requires-3 : goal.two_digits-requires-3
two_digits-requires-3 c = let its = short_date c.args.day c.requires in omega (arith, its.month)

pub two_digits-requires-4 : goal.two_digits-requires-4
two_digits-requires-4 c = let its = short_date c.args.day c.requires in omega (arith, its.day)
