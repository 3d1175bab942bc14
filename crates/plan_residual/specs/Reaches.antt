-- The sets of a month's short rights.
use Rattle.std.specs.Prelude.{◌≡◌, ℕ, ◌<◌, Bool, List, length, Option, Some, None, IsTrue}
use Rattle.cut_cert.specs.Sets.{cut_at}
use Rattle.water_model.specs.Basin.{is_senior}
use Rattle.water_model.specs.Cuts.{IsTight, IsReach}
use Rattle.water_model.specs.History.{IsShort, cut_of}
use Rattle.water_model.specs.declared.types.Basin.{Basin}
use Rattle.water_model.specs.declared.types.MonthRecord.{MonthRecord}

-- each short right has a set that is a tight cut of it
pub record HaveTightSets (b : Basin) (m : MonthRecord) : Type 0 where
  pub each : (r : ℕ) → r < length b.rights → IsShort m r →
      (cut : List Bool) × (cut_of m r ≡ Some cut) × IsTight b m.month m.supply m.delivered r cut

-- the set of a right is its reach
abbrev pub HasReach : Basin → MonthRecord → ℕ → Type 0
HasReach b m right = IsReach b m.month m.supply m.delivered right (cut_at m.cuts right)

-- the most senior short right whose set is not its reach, or none
abbrev pub IsFirstOther : Basin → MonthRecord → Option ℕ → Type 0
IsFirstOther b m None = (r : ℕ) → r < length b.rights → IsShort m r → HasReach b m r
IsFirstOther b m (Some right) =
    (right < length b.rights) × IsShort m right × (HasReach b m right → ⊥)
    × ((s : ℕ) → s < length b.rights → IsTrue (is_senior b s right) → IsShort m s → HasReach b m s)
