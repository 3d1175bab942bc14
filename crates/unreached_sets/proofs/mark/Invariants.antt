use Rattle.std.proofs.Common.{◌≡◌}
use Rattle.std.specs.Prelude.{Some}
use Rattle.water_model.specs.CutSets.{with_set}
use Rattle.unreached_sets.proofs.Marks.{marked}
use Rattle.unreached_sets.proofs.mark.Given as goal
use Rattle.augment.specs.Raised.{not_reached}

abbrev pub invariant-loop-node : goal.invariant-loop-node
invariant-loop-node l = l.sets ≡ with_set l.fn.sets l.index (Some (marked l.circ.nodes (not_reached l.circ) l.node))
