-- What a solver is to its callers, and what it keeps.
use Rattle.std.specs.Prelude.{◌≡◌}
use Rattle.water_model.specs.Valid.{IsValidBasin}
use Rattle.water_model.specs.declared.types.Basin.{Basin}
use Rattle.senior_hold.specs.Layouts.{IsLayout, FitsRoom}
use Rattle.senior_hold.specs.Places.{HasPlaces}
use Rattle.senior_hold.specs.declared.solver.Solver.TheInside.{Inside}

-- its basin
abbrev pub basin_of : Inside → Basin
basin_of i = i.basin.now

pub record IsValidSolver (i : Inside) : Type 0 where
  pub valid : IsValidBasin i.basin.now
  pub is_layout : IsLayout i.basin.now i.layout
  pub fits_room : FitsRoom i.basin.now i.room
  pub places : HasPlaces i.basin.now i.region i.places
  pub rounds : i.rounds.basin ≡ i.basin.now
