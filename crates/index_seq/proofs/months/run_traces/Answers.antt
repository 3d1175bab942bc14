use Rattle.index_seq.proofs.Rotation.{turn_of_same}
use Rattle.index_seq.proofs.months.run_traces.Goals as goal

pub run_in_room-requires-clause-begun : goal.run_in_room-requires-clause-begun
run_in_room-requires-clause-begun g c = turn_of_same c.args.series.now c.in_ok-room.room.begun c.in_ok-room.ensures.begun

pub run_in_room-requires-clause-basin : goal.run_in_room-requires-clause-basin
run_in_room-requires-clause-basin g c = c.requires.basin

pub run_in_room-requires-clause-whole : goal.run_in_room-requires-clause-whole
run_in_room-requires-clause-whole g c = c.requires.whole

pub run_in_room-requires-clause-series : goal.run_in_room-requires-clause-series
run_in_room-requires-clause-series g c = c.requires.series

pub run_in_room-requires-clause-engine : goal.run_in_room-requires-clause-engine
run_in_room-requires-clause-engine g c = c.requires.engine

pub run_in_room-requires-clause-sums : goal.run_in_room-requires-clause-sums
run_in_room-requires-clause-sums g c = c.in_ok-room.ensures.sums

pub run_in_room-requires-clause-year : goal.run_in_room-requires-clause-year
run_in_room-requires-clause-year g c = c.in_ok-room.ensures.year
