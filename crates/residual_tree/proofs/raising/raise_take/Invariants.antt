use Rattle.std.proofs.Common.{◌≡◌, ◌+◌, ◌<◌, ◌≤◌, slice_index}
use Rattle.circulation.specs.Contents.{flow_of, IsCirculation}
use Rattle.residual_tree.specs.Tree.{IsLabeled, IsResidualTree}
use Rattle.residual_tree.specs.Raised.{IsRaisedOver}
use Rattle.residual_tree.proofs.raising.raise_take.Given as goal

abbrev pub invariant-loop-pushes : goal.invariant-loop-pushes
invariant-loop-pushes g l = record {
  kept : IsCirculation l.circ;
  rest : IsRaisedOver l.fn.circ l.circ l.arc;
  held : flow_of l.circ l.arc ≡ slice_index l.circ.lower l.arc;
  tree : IsResidualTree l.circ l.tree;
  labeled : IsLabeled l.tree (slice_index l.fn.circ.from l.arc);
  got : l.got ≡ flow_of l.circ l.arc;
  rises : flow_of l.fn.circ l.arc ≤ l.got;
  less : l.got < l.want;
  count : l.pushes ≡ l.fn.pushes + l._pushes;
  left : l.left + l._pushes ≡ l.fn.left;
  each : flow_of l.fn.circ l.arc + l._pushes ≤ l.got;
}
