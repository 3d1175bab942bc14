use Rattle.std.proofs.Common.{ℕ, ◌≡◌, ◌+◌, ◌<◌, length, slice_index}
use Rattle.water_model.specs.Hydrology.{inflow_at}
use Rattle.month_terms.proofs.Calendars.{NoneFrom}
use Rattle.month_terms.proofs.supply.write_gauged.Given as goal

abbrev pub invariant-loop-gauge : goal.invariant-loop-gauge
invariant-loop-gauge l = (n : ℕ) → n < length l.basin.nodes → NoneFrom l.series.gauged l.gauge n →
    slice_index l.supply n ≡ inflow_at l.basin l.series n l.index + slice_index l.returned n
