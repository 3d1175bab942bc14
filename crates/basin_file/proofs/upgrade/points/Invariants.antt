use Rattle.std.proofs.Common.{◌≡◌, ◌++◌, drop, map}
use Rattle.toml.specs.View.{view}
use Rattle.basin_file.specs.Upgraded.{point_data}
use Rattle.basin_file.proofs.upgrade.points.Given as goal

abbrev pub invariant-loop-point : goal.invariant-loop-point
invariant-loop-point l = map view l.list.items ++ map point_data (drop l.point-index l.area) ≡ map point_data l.area
