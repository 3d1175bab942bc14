use Rattle.std.proofs.Common.{ℕ, ◌≡◌, ◌<◌, slice_index}
use Rattle.water_model.specs.Hydrology.{evaporation}
use Rattle.water_model.specs.Lookups.{of_entry}
use Rattle.month_terms.proofs.evaporation.evaporate.Given as goal

abbrev pub invariant-loop-reservoir : goal.invariant-loop-reservoir
invariant-loop-reservoir l = (v : ℕ) → v < l.reservoir → slice_index l.evaporated v
    ≡ of_entry l.basin.reservoirs v (λ r. evaporation r.area (slice_index l.opening v) (slice_index r.rate l.in_year))
    0
