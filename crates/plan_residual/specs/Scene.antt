-- What a search goes through.
use Rattle.rights_roll.specs.Rolls.{IsRollOf}
use Rattle.rights_roll.specs.RollView.{RollView}
use Rattle.water_model.specs.declared.types.Basin.{Basin}
use Rattle.water_model.specs.declared.types.MonthRecord.{MonthRecord}
use Rattle.chains.specs.declared.Chains.{Chains}
use Rattle.plan_residual.specs.Residual.{HasPlan}
use Rattle.plan_residual.specs.Rows.{AreStepRows}

-- what contracts see of it: the basin, its roll, the month, and the steps that leave each node
pub record SceneView : Type 0 where
  pub basin : Basin
  pub roll : RollView
  pub month : MonthRecord
  pub rows : Chains

abbrev pub scene : Basin → RollView → MonthRecord → Chains → SceneView
scene b roll m rows = record { basin = b; roll = roll; month = m; rows = rows }

-- what each keeps: the month has a plan of its own in the basin, the roll is that of its rights, and the rows are those
-- of its steps
pub record IsScene (s : SceneView) : Type 0 where
  pub plan : HasPlan s.basin s.month
  pub roll : IsRollOf s.basin.rights s.roll
  pub rows : AreStepRows s.basin s.rows
