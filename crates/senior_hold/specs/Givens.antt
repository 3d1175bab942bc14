-- What a month's plan is sought for, and what a sweep comes to.
use Rattle.std.specs.Prelude.{◌≡◌, ℕ, ◌+◌, ◌*◌, ◌<◌, ◌≤◌, length}
use Rattle.water_text.specs.Months.{IsMonth}
use Rattle.water_model.specs.CutSets.{CutSets}
use Rattle.water_model.specs.Plans.{IsPlan}
use Rattle.water_model.specs.Valid.{IsValidBasin}
use Rattle.water_model.specs.declared.types.Plan.{Plan}
use Rattle.senior_hold.specs.Layouts.{IsLayout}
use Rattle.senior_hold.specs.MonthNetwork.{arc_count}
use Rattle.senior_hold.specs.Solved.{AreSupplies, AreWants, FitsPlan, FitsCuts, IsGiven, IsSolved}
use Rattle.senior_hold.specs.declared.sweep.Givens.{Givens}
use Rattle.senior_hold.specs.declared.sweep.Method.{Method}
use Rattle.senior_hold.specs.declared.sweep.Sweep.{Sweep}

-- the month, the supplies and the wants are of a valid basin, the layout is the basin's, and there is a right where
-- rights are served by searches
pub record IsGivens (g : Givens) : Type 0 where
  pub valid : IsValidBasin g.basin.now
  pub layout : IsLayout g.basin.now g.layout.now
  pub month : IsMonth g.month
  pub supplies : AreSupplies g.basin.now g.supply.now
  pub wants : AreWants g.basin.now g.month g.want.now
  pub some : g.method ≡ Method.Searches → 0 < length g.basin.now.rights

-- room for a plan, cuts of which none is held, and for searches a plan of the month
pub record CanBegin (g : Givens) (p : Plan) (cuts : CutSets) : Type 0 where
  pub given : IsGiven g.basin.now g.month g.supply.now g.want.now p cuts
  pub plan : g.method ≡ Method.Searches → IsPlan g.basin.now g.month g.supply.now g.want.now p

-- the plan and the cuts that a sweep ends with, with `after` pushes where there were `before`
pub record IsSweep (g : Givens) (p : Plan) (sets : CutSets) (before after : ℕ) (came : Sweep) : Type 0 where
  pub fits : FitsPlan g.basin.now p
  pub cuts : FitsCuts g.basin.now sets
  pub plan : IsPlan g.basin.now g.month g.supply.now g.want.now p
  pub solved : came ≡ Sweep.Solved → IsSolved g.basin.now g.month g.supply.now g.want.now p sets
  pub pushes : g.method ≡ Method.Tree → after ≤ before + 30 * length g.basin.now.rights
  pub gave_up : came ≡ Sweep.GaveUp → before + 29 * length g.basin.now.rights < after
  pub searched : g.method ≡ Method.Searches → came ≡ Sweep.Solved
  pub search_pushes : g.method ≡ Method.Searches →
      after ≤ before + length g.basin.now.rights * (30 * (2 * arc_count g.basin.now + 1))
