use Rattle.std.proofs.Common.{take}
use Rattle.rights_roll.specs.Tables.{AreParts}
use Rattle.rights_roll.proofs.faults.parts_by_right.Given as goal

abbrev pub invariant-loop-row : goal.invariant-loop-row
invariant-loop-row l = AreParts (take l.row-index l.returns) l.rights l.sums.items
