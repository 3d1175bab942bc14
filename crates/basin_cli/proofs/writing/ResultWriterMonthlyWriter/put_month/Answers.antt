use Rattle.std.proofs.Common.{refl}
use Rattle.basin_cli.proofs.Monthly.{last_month}
use Rattle.basin_cli.proofs.writing.ResultWriterMonthlyWriter.put_month.Goals as goal

pub put_month-requires-clause-roll : goal.put_month-requires-clause-roll
put_month-requires-clause-roll g c = rw c.basin.ensures.value c.roll.ensures

pub put_month-requires-clause-month : goal.put_month-requires-clause-month
put_month-requires-clause-month g c =
    rw (c.basin.ensures.value, c.month.ensures) (last_month _ c.args.run.now _ _ refl c.requires.last.stands).fits

pub returns-clause-month : goal.returns-clause-month
returns-clause-month g c = record {
  entry = c.args.run.now.last;
  of_month = refl;
  is = tt;
  lines = rw (c.basin.ensures.value, c.month.ensures) at c.put_month.ensures.text;
}
