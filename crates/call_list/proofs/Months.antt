-- In a month of a run it can be found what one more unit would do.
use Rattle.std.proofs.Common.{arith, List, [], ◌∷◌, ◌++◌, length, length-append}
use Rattle.water_model.specs.History.{IsPartialHistory, HasReaches, HaveReaches}
use Rattle.water_model.specs.Valid.{IsValidBasin, IsSeriesOf}
use Rattle.water_model.specs.declared.types.Basin.{Basin}
use Rattle.water_model.specs.declared.types.Series.{Series}
use Rattle.water_model.specs.declared.types.MonthRecord.{MonthRecord}
use Rattle.water_model.proofs.Histories.{last_follows}
use Rattle.water_model.proofs.Lists.{get_after}
use Rattle.plan_residual.specs.Residual.{HasPlan}
use Rattle.next_unit.specs.Helped.{HasRoomForAll}
use Rattle.next_unit.proofs.InHistories.{IsMonthOf, month_of, has_plan, has_room}
use Rattle.result_text.specs.Range.{FitsText}
use Rattle.result_text.proofs.Whole.{FitsText-follows}

-- what a finder and the lines of a month ask of it
pub record CanBeFound (b : Basin) (m : MonthRecord) : Type 0 where
  pub plan : HasPlan b m
  pub reaches : HasReaches b m
  pub room : HasRoomForAll b m
  pub fits : FitsText b m

-- the last month of some that a run went through
pub last_can_be_found : (b : Basin) (series : Series) (before : List MonthRecord) (m : MonthRecord) →
    IsValidBasin b → IsSeriesOf b series → IsPartialHistory b series (before ++ m ∷ []) →
    HaveReaches b (before ++ m ∷ []) → CanBeFound b m
last_can_be_found b series before m valid fits partial reaches = record {
  plan = has_plan b series (before ++ m ∷ []) (length before) m valid month;
  reaches = reaches (length before) m (get_after before [] m);
  room = has_room b series (before ++ m ∷ []) (length before) m valid fits month;
  fits = FitsText-follows b series before m valid (last_follows b series before m partial)
      (omega (arith, partial.within, length-append before (m ∷ [])));
}
  where
    month : IsMonthOf b series (before ++ m ∷ []) (length before) m
    month = month_of b series (before ++ m ∷ []) (length before) m partial (get_after before [] m)
