use Rattle.std.proofs.Common.{◌≡◌, ◌++◌, drop, map}
use Rattle.toml.specs.View.{view}
use Rattle.basin_file.specs.Upgraded.{number}
use Rattle.basin_file.proofs.upgrade.numbers.Given as goal

-- what stands in the list and the numbers that are left are all numbers
abbrev pub invariant-loop-n : goal.invariant-loop-n
invariant-loop-n l = map view l.list.items ++ map number (drop l.n-index l.amounts) ≡ map number l.amounts
