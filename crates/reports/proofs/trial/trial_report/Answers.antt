use Rattle.reports.proofs.trial.trial_report.Goals as goal

pub kept_of-requires-clause-basin : goal.kept_of-requires-clause-basin
kept_of-requires-clause-basin g c = c.requires.basin

pub kept_of-requires-clause-series : goal.kept_of-requires-clause-series
kept_of-requires-clause-series g c = c.requires.series

pub put_trial-put-requires-clause-basin : goal.put_trial-put-requires-clause-basin
put_trial-put-requires-clause-basin g c = c.requires.basin

pub put_trial-put-requires-clause-series : goal.put_trial-put-requires-clause-series
put_trial-put-requires-clause-series g c = c.requires.series
