use Rattle.index_seq.proofs.Rotation.{begun_is, begun_fits, turn_of_same}
use Rattle.index_seq.proofs.begun.rotate.Goals as goal

pub rotate_series-requires-clause-begun : goal.rotate_series-requires-clause-begun
rotate_series-requires-clause-begun c = turn_of_same c.args.series.now c.in_ok-begun.begun c.in_ok-begun.ensures

pub returns-clause-inflows : goal.returns-clause-inflows
returns-clause-inflows c =
    rw c.rotate_series.ensures.value
    (begun_is c.args.basin.now c.args.series.now c.args.years c.requires.series c.requires.years)

pub returns-clause-series : goal.returns-clause-series
returns-clause-series c =
    rw c.rotate_series.ensures.value
    (begun_fits c.args.basin.now c.args.series.now c.args.years c.requires.series c.requires.years)

pub rotate_series-requires-clause-basin : goal.rotate_series-requires-clause-basin
rotate_series-requires-clause-basin c = c.requires.basin

pub rotate_series-requires-clause-whole : goal.rotate_series-requires-clause-whole
rotate_series-requires-clause-whole c = c.requires.whole

pub rotate_series-requires-clause-series : goal.rotate_series-requires-clause-series
rotate_series-requires-clause-series c = c.requires.series

pub rotate_series-requires-clause-years : goal.rotate_series-requires-clause-years
rotate_series-requires-clause-years c = c.requires.years
