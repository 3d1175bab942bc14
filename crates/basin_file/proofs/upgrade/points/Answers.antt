use Rattle.std.proofs.Common.{refl}
use Rattle.basin_file.proofs.upgrade.points.Goals as goal

pub loop-point-init : goal.loop-point-init
loop-point-init c = rw c.new-list.ensures.items refl
