use Rattle.std.proofs.Common.{arith}
use Rattle.water_model.proofs.Gauges.{inflow_cell, cell_is_inflow, gauges_rise}
use Rattle.water_model.proofs.calls.inflow_of.Goals as goal

pub overflow_mul-index : goal.overflow_mul-index
overflow_mul-index c =
    let cell = inflow_cell c.requires.basin
    c.requires.series c.requires.node c.requires.index c.index.ensures c.in-Gauged.is in
    rw c.len.ensures (omega (arith, cell.small))

pub overflow_add-index : goal.overflow_add-index
overflow_add-index c =
    let cell = inflow_cell c.requires.basin
    c.requires.series c.requires.node c.requires.index c.index.ensures c.in-Gauged.is in
    rw (c.len.ensures, c.index_of-gauge.ensures, c.as_slice.ensures) (omega (arith, cell.small))

pub index-requires-in-Gauged : goal.index-requires-in-Gauged
index-requires-in-Gauged c =
    let cell = inflow_cell c.requires.basin
    c.requires.series c.requires.node c.requires.index c.index.ensures c.in-Gauged.is in
    rw (c.len.ensures, c.index_of-gauge.ensures, c.as_slice.ensures) cell.within

pub returns-in-Gauged : goal.returns-in-Gauged
returns-in-Gauged c =
    cell_is_inflow c.args.basin.now c.args.series.now c.args.node c.args.index c.index.result.now
    c.index-in-Gauged.result.now c.index.ensures c.in-Gauged.is
    (rw (c.len.ensures, c.index_of-gauge.ensures, c.as_slice.ensures) at c.index-in-Gauged.ensures)

pub index_of-gauge-requires : goal.index_of-gauge-requires
index_of-gauge-requires c = rw c.as_slice.ensures (gauges_rise c.args.basin.now c.args.series.now c.requires.series)
