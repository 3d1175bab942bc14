-- Laws over the definitions.
use Rattle.std.specs.Prelude.{◌≡◌, ℕ, ◌<◌, ◌≤◌, Bool, List, length, slice_index, Some, None}
use Rattle.water_text.specs.declared.month.Month.{Month}
use Rattle.water_model.specs.Plans.{IsPlan}
use Rattle.water_model.specs.Cuts.{IsTight, IsReach}
use Rattle.water_model.specs.CutSets.{CutSets, set_of}
use Rattle.water_model.specs.Hydrology.{run_month, want_of}
use Rattle.duality.specs.Laws.{AreDeliveries}
use Rattle.water_model.specs.Valid.{IsValidBasin, IsSeriesOf}
use Rattle.water_model.specs.declared.types.Basin.{Basin}
use Rattle.water_model.specs.declared.types.Series.{Series}
use Rattle.water_model.specs.declared.types.Plan.{Plan}
use Rattle.senior_hold.specs.Solved.{AreWants, IsSolved}

-- The wants of a valid basin and a series of it in a month, whatever was used of volumes, are wants that a solver may
-- be given.
abbrev pub WantsAreWithin : Type 0
WantsAreWithin =
    (b : Basin) (series : Series) (index : ℕ) (used want : List ℕ) → IsValidBasin b → IsSeriesOf b series →
    length want ≡ length b.rights →
    ((r : ℕ) → r < length b.rights → slice_index want r ≡ want_of b series r index (slice_index used r)) →
    AreWants b (run_month b index) want

-- what a record of a month says of its plan and its cuts
pub record HasPlanAndCuts (b : Basin) (month : Month) (supply want delivered : List ℕ) (p : Plan)
    (cuts : CutSets) : Type 0 where
  pub plan : IsPlan b month supply want p
  pub short : (r : ℕ) → r < length b.rights → slice_index delivered r < slice_index want r →
      (cut : List Bool) × (set_of cuts r ≡ Some cut) × IsTight b month supply delivered r cut
  pub met : (r : ℕ) → r < length b.rights → slice_index want r ≤ slice_index delivered r → set_of cuts r ≡ None
  pub reaches : (r : ℕ) (cut : List Bool) → r < length b.rights → set_of cuts r ≡ Some cut →
      IsReach b month supply delivered r cut

-- A solved month, with what its plan delivers, has a plan, a tight cut for each right that is short, and none for
-- others; and each of the cuts is the reach of its right.
abbrev pub SolvedMonthsFollow : Type 0
SolvedMonthsFollow =
    (b : Basin) (month : Month) (supply want delivered : List ℕ) (p : Plan) (cuts : CutSets) →
    IsSolved b month supply want p cuts → AreDeliveries b want p delivered →
    HasPlanAndCuts b month supply want delivered p cuts
