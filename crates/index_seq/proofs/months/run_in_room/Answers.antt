use Rattle.index_seq.proofs.months.run_in_room.Goals as goal

pub run_each-requires-clause-basin : goal.run_each-requires-clause-basin
run_each-requires-clause-basin g c = c.requires.basin

pub run_each-requires-clause-whole : goal.run_each-requires-clause-whole
run_each-requires-clause-whole g c = c.requires.whole

pub run_each-requires-clause-series : goal.run_each-requires-clause-series
run_each-requires-clause-series g c = c.requires.series

pub run_each-requires-clause-engine : goal.run_each-requires-clause-engine
run_each-requires-clause-engine g c = c.requires.engine

pub run_each-requires-clause-begun : goal.run_each-requires-clause-begun
run_each-requires-clause-begun g c = c.requires.begun

pub run_each-requires-clause-sums : goal.run_each-requires-clause-sums
run_each-requires-clause-sums g c = rw c.as_mut_slice.ensures.value c.requires.sums

pub run_each-requires-clause-year : goal.run_each-requires-clause-year
run_each-requires-clause-year g c = rw c.as_mut_slice-2.ensures.value c.requires.year
