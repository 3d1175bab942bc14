use Rattle.reports.proofs.ReportTexts.{are_rights}
use Rattle.reports.proofs.period.put_tally.Goals as goal

pub put_report-requires-clause-rights : goal.put_report-requires-clause-rights
put_report-requires-clause-rights g c =
    let all = c.requires.tally in
    are_rights c.args.basin.now c.args.series.now all.records c.args.tally.now c.requires.basin all.run.history.partial
    all.is

pub returns-in-Ok-clause-text : goal.returns-in-Ok-clause-text
returns-in-Ok-clause-text g c =
    let all = c.requires.tally in
    (all.records, all.run, c.in-Ok.ensures.text c.args.series.now all.records all.is)

pub returns-in-Err-clause-text : goal.returns-in-Err-clause-text
returns-in-Err-clause-text g c =
    let all = c.requires.tally in
    (all.records, all.run, c.in-Err.ensures.text c.args.series.now all.records all.is)
