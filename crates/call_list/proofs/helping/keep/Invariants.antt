use Rattle.call_list.specs.Helpers.{HoldsPrefix}
use Rattle.call_list.proofs.helping.keep.Given as goal

abbrev pub invariant-loop-node : goal.invariant-loop-node
invariant-loop-node l = HoldsPrefix l.fn.cuts l.cuts l.right l.set l.node
