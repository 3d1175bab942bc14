use Rattle.std.proofs.Common.{◌≡◌, ◌+◌, ◌++◌, drop, map}
use Rattle.toml.specs.View.{view}
use Rattle.basin_file.specs.Upgraded.{number, shut_months}
use Rattle.basin_file.proofs.upgrade.months_shut.Given as goal

-- the months so far and those that are left are all months
abbrev pub invariant-loop-i : goal.invariant-loop-i
invariant-loop-i l =
    map view l.list.items ++ map number (shut_months (l.i + 1) (drop l.i l.shut)) ≡ map number (shut_months 1 l.shut)
