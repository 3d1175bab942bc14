-- What a script's months are.
use Rattle.std.specs.Prelude.{◌≡◌, ℕ, ◌<◌, Some, ◌↔◌}
use Rattle.water_text.specs.Months.{IsMonth}
use Rattle.water_text.specs.declared.month.Month.{Month}
use Rattle.water_model.specs.Hydrology.{index_in_run, run_month}
use Rattle.water_model.specs.Valid.{IsValidBasin}
use Rattle.water_model.specs.declared.types.Basin.{Basin}

-- Months have their index. A month has an index exactly where the run has it, and the month with that index is this
-- one.
abbrev pub MonthsHaveTheirIndex : Type 0
MonthsHaveTheirIndex =
    (b : Basin) (m : Month) (i : ℕ) → IsValidBasin b → IsMonth m →
    (index_in_run b m ≡ Some i) ↔ ((i < b.months) × (m ≡ run_month b i))
