use Rattle.std.proofs.Common.{sym, arith}
use Rattle.water_model.proofs.Gauges.{wanted_rise, wanted_within}
use Rattle.edit_script.proofs.Columns.{bounded_wants}
use Rattle.edit_script.proofs.lines.read_want.Goals as goal

pub index_of-place-requires : goal.index_of-place-requires
index_of-place-requires c = rw c.as_slice.ensures (wanted_rise _ _ c.requires.series)

pub overflow_cast-place : goal.overflow_cast-place
overflow_cast-place c =
    let place = wanted_within _ _ _ c.requires.series c.in-Some.ensures.within (sym c.if-not-is_in_series.ensures) in
    let at = rw c.as_slice.ensures at c.index_of-place.ensures in
    omega (arith, place, at, bounded_wants _ _ c.requires.basin c.requires.series)

pub returns-clause-placed : goal.returns-clause-placed
returns-clause-placed c =
    let place = wanted_within _ _ _ c.requires.series c.in-Some.ensures.within (sym c.if-not-is_in_series.ensures) in
    let at = rw c.as_slice.ensures at c.index_of-place.ensures in
    (c.in_ok-index.ensures.within, omega (arith, place, at), c.in_ok-index.ensures.small)
