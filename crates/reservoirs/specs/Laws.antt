-- Laws over area tables.
use Rattle.std.specs.Prelude.{◌≡◌, ◌↔◌, List, None}
use Rattle.water_model.specs.Valid.{IsAreaTable}
use Rattle.water_model.specs.declared.types.AreaPoint.{AreaPoint}
use Rattle.reservoirs.specs.AreaFaults.{table_fault}

-- A list of points is an area table exactly where it has no first fault.
abbrev pub TablesHaveNoFault : Type 0
TablesHaveNoFault = (points : List AreaPoint) → IsAreaTable points ↔ (table_fault points ≡ None)
