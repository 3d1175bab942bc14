use Rattle.basin_tree.specs.Tables.{row_of}
use Rattle.basin_tree.proofs.Chains.{list_any-map}
use Rattle.basin_tree.proofs.keys.any_value.Goals as goal

pub returns : goal.returns
returns g c = rw (← c.keys.ensures) (rw (list_any-map row_of) c.any_at.ensures)
