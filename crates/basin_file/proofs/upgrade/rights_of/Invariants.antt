use Rattle.std.proofs.Common.{◌≡◌, ◌++◌, drop, map}
use Rattle.toml.specs.Data.{table}
use Rattle.toml.specs.View.{view}
use Rattle.basin_file.specs.Upgraded.{right_row, rights_in}
use Rattle.basin_file.proofs.upgrade.rights_of.Given as goal

abbrev pub invariant-loop-right : goal.invariant-loop-right
invariant-loop-right l =
    map view l.list.items ++ map (λ r. table (right_row l.basin r))
    (rights_in l.which (drop l.right-index l.basin.rights))
    ≡ map (λ r. table (right_row l.basin r)) (rights_in l.which l.basin.rights)
