use Rattle.index_seq.proofs.ensemble.sorted_amounts.Goals as goal

pub open-requires : goal.open-requires
open-requires g c = c.requires.basin

pub run_traces-requires-clause-basin : goal.run_traces-requires-clause-basin
run_traces-requires-clause-basin g c = c.requires.basin

pub run_traces-requires-clause-whole : goal.run_traces-requires-clause-whole
run_traces-requires-clause-whole g c = c.requires.whole

pub run_traces-requires-clause-series : goal.run_traces-requires-clause-series
run_traces-requires-clause-series g c = c.requires.series

pub run_traces-requires-clause-engine : goal.run_traces-requires-clause-engine
run_traces-requires-clause-engine g c = rw c.leave_flows.ensures c.in_ok-engine.ensures
