use Rattle.std.proofs.Common.{◌≡◌, ◌+◌, ◌≤◌, slice_index}
use Rattle.circulation.specs.Contents.{flow_of, IsCirculation, SameButScratch}
use Rattle.residual_tree.specs.Tree.{IsResidualTree}
use Rattle.residual_tree.specs.Raised.{IsRaisedOver}
use Rattle.residual_tree.proofs.raising.raise_labeled.Given as goal

abbrev pub invariant-loop-pushes : goal.invariant-loop-pushes
invariant-loop-pushes g l = record {
  kept : IsCirculation l.circ;
  rest : IsRaisedOver l.fn.circ l.circ l.arc;
  held : flow_of l.circ l.arc ≡ slice_index l.circ.lower l.arc;
  tree : IsResidualTree l.circ l.tree;
  rises : flow_of l.fn.circ l.arc ≤ flow_of l.circ l.arc;
  limit : flow_of l.circ l.arc ≤ l.want;
  count : l.pushes ≡ l.fn.pushes + l._pushes;
  each : flow_of l.fn.circ l.arc + l._pushes ≤ flow_of l.circ l.arc;
  still : l._pushes ≡ 0 → SameButScratch l.fn.circ l.circ;
}
