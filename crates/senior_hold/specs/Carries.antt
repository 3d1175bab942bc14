-- What links carry in a day, laid out by calendar month.
use Rattle.std.specs.Prelude.{◌≡◌, ◌==◌, ℕ, ◌*◌, ◌^◌, ◌<◌, false, List, length, map, slice_get, Some, unwrap_or}
use Rattle.std.specs.Prelude.{if◌then◌else◌}
use Rattle.water_model.specs.declared.types.Basin.{Basin}
use Rattle.water_model.specs.declared.types.Carry.{Carry}
use Rattle.water_model.specs.declared.types.Carry.TheVariants.{River, Canal}
use Rattle.senior_hold.specs.declared.carries.TheConstants.{OF_RIVER}

-- what a link of this kind carries in a day of the calendar month at this position in a list of twelve
abbrev pub daily_of_kind : Carry → ℕ → ℕ
daily_of_kind River position = OF_RIVER
daily_of_kind (Canal per_day shut) position = if unwrap_or (slice_get shut position) false then 0 else per_day

-- what it carries in so many days
abbrev pub carry_in : ℕ → ℕ → ℕ
carry_in daily days = if daily == OF_RIVER then 10 ^ 15 else daily * days

-- what each link carries in a day of the calendar month
abbrev pub dailies_in : Basin → ℕ → List ℕ
dailies_in b position = map (λ l. daily_of_kind l.carry position) b.links

-- a row of these for each calendar month
pub record AreDailies (b : Basin) (rows : List (List ℕ)) : Type 0 where
  pub count : length rows ≡ 12
  pub row : (position : ℕ) → position < 12 → slice_get rows position ≡ Some (dailies_in b position)
