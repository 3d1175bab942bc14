-- Laws over rolls of rights.
use Rattle.std.specs.Prelude.{◌≡◌, ◌↔◌, List, None}
use Rattle.water_model.specs.Indices.{by_seniority}
use Rattle.water_model.specs.Rights.{AreStrict, IsSoundRoll}
use Rattle.water_model.specs.declared.types.ReturnRow.{ReturnRow}
use Rattle.water_model.specs.declared.types.Right.{Right}
use Rattle.rights_roll.specs.RollFaults.{roll_fault}
use Rattle.rights_roll.specs.SeniorityOrder.{IsSeniorityOrder}

-- Seniors come first. Where no two rights have one priority, the list by seniority has every right once, and of two
-- rights the one at the lower index is senior.
abbrev pub SeniorsComeFirst : Type 0
SeniorsComeFirst = (rights : List Right) → AreStrict rights → IsSeniorityOrder rights (by_seniority rights)

-- Rights and return rows are a sound roll exactly where they have no first fault.
abbrev pub SoundRollsHaveNoFault : Type 0
SoundRollsHaveNoFault =
    (rights : List Right) (returns : List ReturnRow) →
    IsSoundRoll rights returns ↔ (roll_fault rights returns ≡ None)
