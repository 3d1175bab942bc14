use Rattle.std.proofs.Common.{sym, arith}
use Rattle.water_model.proofs.Gauges.{gauge_within, gauges_rise}
use Rattle.edit_script.proofs.Columns.{bounded_gauges}
use Rattle.edit_script.proofs.lines.read_inflow.Goals as goal

pub index_of-gauge-requires : goal.index_of-gauge-requires
index_of-gauge-requires c = rw c.as_slice.ensures (gauges_rise _ _ c.requires.series)

pub overflow_cast-gauge : goal.overflow_cast-gauge
overflow_cast-gauge c =
    let gauge = gauge_within _ _ _ c.requires.series c.in-Some.ensures.within (sym c.if-not-is_gauged.ensures) in
    let at = rw c.as_slice.ensures at c.index_of-gauge.ensures in
    omega (arith, gauge, at, bounded_gauges _ _ c.requires.basin c.requires.series)

pub returns-clause-placed : goal.returns-clause-placed
returns-clause-placed c =
    let gauge = gauge_within _ _ _ c.requires.series c.in-Some.ensures.within (sym c.if-not-is_gauged.ensures) in
    let at = rw c.as_slice.ensures at c.index_of-gauge.ensures in
    (c.in_ok-index.ensures.within, omega (arith, gauge, at), c.in_ok-index.ensures.small)
