use Rattle.std.proofs.Common.{◌∙◌}
use Rattle.index_seq.specs.Traces.{begun_after}
use Rattle.index_seq.proofs.Running.{partial_next, month_room, month_more, month_fits}
use Rattle.index_seq.proofs.months.run_month.Goals as goal

pub add_month-requires-clause-count : goal.add_month-requires-clause-count
add_month-requires-clause-count g c =
    let u = c.requires.under_way in
    month_fits c.args.basin.now (begun_after c.args.series.now c.args.at.trace) u.records c.month.result.now
    c.args.year.now u.year.count
    (partial_next c.args.basin.now (begun_after c.args.series.now c.args.at.trace) c.step.new.self u.records
    c.month.result.now
    (c.step.ensures.basin ∙ u.basin) (c.step.ensures.series ∙ u.fits)
    c.month.ensures (c.step.ensures.month u.records u.stands))

pub add_month-requires-clause-room : goal.add_month-requires-clause-room
add_month-requires-clause-room g c =
    let u = c.requires.under_way in
    month_room c.args.basin.now c.args.series.now c.args.at.trace c.args.at.years c.args.at.months c.args.run.now
    c.args.sums.now c.args.year.now c.month.result.now (rw (← u.basin) u.stands.valid)
    (rw (← u.basin, ← u.fits) u.stands.fits) u
    (partial_next c.args.basin.now (begun_after c.args.series.now c.args.at.trace) c.step.new.self u.records
    c.month.result.now
    (c.step.ensures.basin ∙ u.basin) (c.step.ensures.series ∙ u.fits)
    c.month.ensures (c.step.ensures.month u.records u.stands))

pub returns-clause-under_way : goal.returns-clause-under_way
returns-clause-under_way g c =
    let u = c.requires.under_way in
    month_more c.args.basin.now c.args.series.now c.args.at.trace c.args.at.years c.args.at.months c.args.run.now
    c.step.new.self c.args.sums.now c.args.year.now c.add_month.new.year c.month.result.now u
    c.step.ensures.basin c.step.ensures.series
    (rw c.month.ensures (c.step.ensures.month u.records u.stands))
    c.add_month.ensures.count c.add_month.ensures.each
