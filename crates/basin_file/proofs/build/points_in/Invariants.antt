use Rattle.std.proofs.Common.{◌≡◌, ◌++◌, drop}
use Rattle.toml.specs.View.{items_view}
use Rattle.basin_file.specs.Spelled.{points_in}
use Rattle.basin_file.proofs.build.points_in.Given as goal

abbrev pub invariant-loop-value : goal.invariant-loop-value
invariant-loop-value l =
    l.points.items ++ points_in (items_view (drop l.value-index l.items)) ≡ points_in (items_view l.items)
