use Rattle.std.proofs.Common.{◌≡◌, map, take}
use Rattle.water_model.specs.Rights.{priority}
use Rattle.rights_roll.specs.Priorities.{numbers_of}
use Rattle.cut_cert.proofs.rows.priorities_of.Given as goal

abbrev pub invariant-loop-right : goal.invariant-loop-right
invariant-loop-right l = map numbers_of l.priorities.items ≡ map priority (take l.right-index l.right-items)
