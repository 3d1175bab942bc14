use Rattle.std.proofs.Common.{ℕ, ◌≡◌, ◌+◌, ◌<◌, slice_index}
use Rattle.water_model.specs.Hydrology.{inflow_at}
use Rattle.month_terms.proofs.supply.read_inflows.Given as goal

abbrev pub invariant-loop-node : goal.invariant-loop-node
invariant-loop-node l = (n : ℕ) → n < l.node →
    slice_index l.supply n ≡ inflow_at l.basin l.series n l.index + slice_index l.returned n
