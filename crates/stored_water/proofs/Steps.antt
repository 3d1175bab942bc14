-- From a month's plan and draws to what the laws ask.
use Rattle.std.proofs.Common.{◌<◌, sym, ◌∙◌, ap, arith, length}
use Rattle.std.specs.Prelude.{if◌then◌else◌, slice_index}
use Rattle.duality.proofs.Greatest.{delivery_le_want}
use Rattle.stored_water.proofs.Drawing.{listed}
use Rattle.stored_water.proofs.Regrouped.{owner_in, zone_in_basin}
use Rattle.stored_water.proofs.Stores.{carried_is_stored}
use Rattle.stored_water.specs.StepLaws.{DrawnAreCapped, PlansFillWithinWant, SuppliesAddCarried}
use Rattle.water_model.specs.Accounts.{zone_want}
use Rattle.water_model.specs.Draws.{taken_with}
use Rattle.water_model.specs.Hydrology.{want_of}
use Rattle.water_model.specs.Plans.{carry_of}
use Rattle.water_model.specs.Stores.{reservoir_of_right}

pub plans_fill_within_want : PlansFillWithinWant
plans_fill_within_want b series month i number natural want used delivered l p zones plan are wants zone own =
    omega (
      arith,
      are.each zone below,
      delivery_le_want b (carry_of b month) natural want p zone below plan,
      wants zone below,
      ap
          (λ t. if t then zone_want b i number used l.carried zone
          else want_of b series zone i (slice_index used zone))
          own,
    )
  where
    below : zone < length b.rights
    below =
        let found = owner_in b.accounts zone own in
        let at = zones found.0 found.1 found.2 in
        zone_in_basin b zone at.0 (sym (ap (reservoir_of_right b) found.3) ∙ at.1)

pub supplies_add_carried : SuppliesAddCarried
supplies_add_carried b opening evaporated number delivered amounts natural supply l is zones within held whole rest n
    m =
    omega (
      arith,
      carried_is_stored b opening evaporated number delivered amounts l n is zones within held,
      whole n m,
      rest n m,
    )

pub drawn_are_capped : DrawnAreCapped
drawn_are_capped b month held supply asked number delivered l amounts sited drawn j h =
    let s = sited.each j h in
    let taken = listed (length b.nodes) (taken_with b delivered l j amounts) in
    (drawn.each j h s.from s.to s.is_from s.is_to taken.0 (record { one_each = taken.1; each = taken.2 })).within
