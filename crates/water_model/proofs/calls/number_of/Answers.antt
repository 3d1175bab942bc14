use Rattle.std.proofs.Common.{arith}
use Rattle.water_model.proofs.Gauges.{want_cell, want_is_number, wanted_rise}
use Rattle.water_model.proofs.calls.number_of.Goals as goal

pub overflow_mul-index : goal.overflow_mul-index
overflow_mul-index c =
    let cell = want_cell c.requires.basin
    c.requires.series c.requires.right c.requires.index c.index.ensures c.in-Series.is in
    rw c.len.ensures (omega (arith, cell.small))

pub overflow_add-index : goal.overflow_add-index
overflow_add-index c =
    let cell = want_cell c.requires.basin
    c.requires.series c.requires.right c.requires.index c.index.ensures c.in-Series.is in
    rw (c.len.ensures, c.index_of-position.ensures, c.as_slice.ensures) (omega (arith, cell.small))

pub index_of-position-requires : goal.index_of-position-requires
index_of-position-requires c = rw c.as_slice.ensures (wanted_rise c.args.basin.now c.args.series.now c.requires.series)

pub index-requires-in-Series : goal.index-requires-in-Series
index-requires-in-Series c =
    let cell = want_cell c.requires.basin
    c.requires.series c.requires.right c.requires.index c.index.ensures c.in-Series.is in
    rw (c.len.ensures, c.index_of-position.ensures, c.as_slice.ensures) cell.within

pub returns-in-Series : goal.returns-in-Series
returns-in-Series c =
    want_is_number c.args.basin.now c.args.series.now c.args.right c.args.index c.index.result.now
    c.index-in-Series.result.now c.index.ensures c.in-Series.is
    (rw (c.len.ensures, c.index_of-position.ensures, c.as_slice.ensures) at c.index-in-Series.ensures)
