use Rattle.index_seq.proofs.ensemble.ensemble_report.Goals as goal

pub sorted_amounts-requires-clause-basin : goal.sorted_amounts-requires-clause-basin
sorted_amounts-requires-clause-basin g c = c.requires.basin

pub sorted_amounts-requires-clause-whole : goal.sorted_amounts-requires-clause-whole
sorted_amounts-requires-clause-whole g c = c.requires.whole

pub sorted_amounts-requires-clause-series : goal.sorted_amounts-requires-clause-series
sorted_amounts-requires-clause-series g c = c.requires.series

pub put_amounts-put-requires-clause-basin : goal.put_amounts-put-requires-clause-basin
put_amounts-put-requires-clause-basin g c = c.requires.basin

pub put_amounts-put-requires-clause-engine : goal.put_amounts-put-requires-clause-engine
put_amounts-put-requires-clause-engine g c = c.in_ok-all.ensures.engine

pub put_amounts-put-requires-clause-lines : goal.put_amounts-put-requires-clause-lines
put_amounts-put-requires-clause-lines g c = c.in_ok-all.ensures.lines
