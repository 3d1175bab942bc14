use Rattle.std.proofs.Common.{refl}
use Rattle.basin_file.proofs.upgrade.months_shut.Goals as goal

pub loop-i-init : goal.loop-i-init
loop-i-init c = rw c.new-list.ensures.items refl
