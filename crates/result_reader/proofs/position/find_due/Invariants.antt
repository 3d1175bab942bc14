use Rattle.std.proofs.Common.{◌≡◌, List, drop, ◌++◌}
use Rattle.result_reader.specs.Due.{take_line}
use Rattle.result_reader.specs.declared.shape.Shape.{Shape}
use Rattle.result_reader.proofs.position.find_due.Given as goal

abbrev pub invariant-loop-at : goal.invariant-loop-at
invariant-loop-at l =
    (others : List Shape) →
    take_line l.basin (drop l.from l.dues ++ others) l.item ≡ take_line l.basin (drop l.at l.dues ++ others) l.item
