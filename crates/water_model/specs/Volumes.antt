-- What is used of volumes, with what was used before the run.
use Rattle.std.specs.Prelude.{ℕ, ◌+◌, ◌==◌, List, Option}
use Rattle.finite_sums.specs.Sums.{total_where, when}
use Rattle.water_model.specs.Lookups.{of_entry}
use Rattle.water_model.specs.Hydrology.{water_year, used_by_volume, delivered_in}
use Rattle.water_model.specs.declared.types.Basin.{Basin}

-- What was used of a volume before month i in its water year: the amounts of the months of the run, and in the water
-- year of the run's first month what was used before the run. It is 0 where there is no volume.
abbrev pub used_with : Basin → Option ℕ → ℕ → (ℕ → ℕ) → ℕ → ℕ
used_with b volume used amount i =
    used_by_volume volume
    (when (water_year b i == water_year b 0) used + total_where i (λ j. water_year b j == water_year b i) amount)

-- so of a diversion's volume, by its deliveries, and of a zone's, by its fills: what each was delivered in the first
-- step. Draws use up no volume of a diversion
abbrev pub used_by_right : Basin → List (List ℕ) → ℕ → ℕ → ℕ
used_by_right b deliveries right i =
    of_entry b.rights right (λ r. used_with b r.volume r.used (λ j. delivered_in deliveries right j) i) 0

-- and of a draw's, by its amounts
abbrev pub used_by_draw : Basin → List (List ℕ) → ℕ → ℕ → ℕ
used_by_draw b drawn draw i =
    of_entry b.draws draw (λ d. used_with b d.volume d.used (λ j. delivered_in drawn draw j) i) 0
