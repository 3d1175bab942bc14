use Rattle.reports.proofs.Loops.{kept_before, kept_more}
use Rattle.reports.proofs.months.keep_month.Goals as goal

pub add-requires-clause-series : goal.add-requires-clause-series
add-requires-clause-series g c = rw c.basin.ensures.value c.series.ensures.fits

pub add-requires-clause-roll : goal.add-requires-clause-roll
add-requires-clause-roll g c = rw c.basin.ensures.value c.roll.ensures

pub add-requires-clause-next : goal.add-requires-clause-next
add-requires-clause-next g c =
    rw (c.basin.ensures.value, c.series.ensures.value, c.month.ensures)
    (kept_before g.T.Kept.is_of c.args.run.now c.step.new.self c.args.kept.now (record {
      basin = c.step.ensures.basin;
      series = c.step.ensures.series;
    }) c.requires.kept c.step.ensures.month)

pub returns-clause-kept : goal.returns-clause-kept
returns-clause-kept g c =
    kept_more g.T.Kept.is_of c.args.run.now c.step.new.self c.args.kept.now (record {
      basin = c.step.ensures.basin;
      series = c.step.ensures.series;
    }) c.requires.kept c.step.ensures.month c.add.new.self
    (rw (c.basin.ensures.value, c.series.ensures.value, c.month.ensures) at c.add.ensures)
