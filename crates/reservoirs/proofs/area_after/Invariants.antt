use Rattle.std.proofs.Common.{◌≡◌, ◌≤◌, drop}
use Rattle.water_model.specs.Hydrology.{area_from}
use Rattle.water_model.specs.Valid.{RisesFrom}
use Rattle.reservoirs.proofs.area_after.Given as goal

abbrev pub invariant-loop-point : goal.invariant-loop-point
invariant-loop-point l = record {
  rises : RisesFrom l.last (drop l.point-index l.rest);
  from : l.last.storage ≤ l.storage;
  area : area_from l.last (drop l.point-index l.rest) l.storage ≡ area_from l.fn.first l.rest l.storage;
}
