use Rattle.reports.proofs.ReportTexts.{totals_room}
use Rattle.reports.proofs.trial.put_trial.Goals as goal

pub put_summary-requires-clause-bounded : goal.put_summary-requires-clause-bounded
put_summary-requires-clause-bounded g c =
    let all = c.requires.trial in
    totals_room c.args.basin.now c.args.series.now all.records c.args.trial.now.tally c.requires.basin
    c.requires.series all.run.history.partial all.is.tally

pub returns-in-Ok-clause-text : goal.returns-in-Ok-clause-text
returns-in-Ok-clause-text g c =
    let all = c.requires.trial in
    (all.records, all.run, c.in-Ok.ensures.text c.args.series.now all.records all.is)

pub returns-in-Err-clause-text : goal.returns-in-Err-clause-text
returns-in-Err-clause-text g c =
    let all = c.requires.trial in
    (all.records, all.run, c.in-Err.ensures.text c.args.series.now all.records all.is)
