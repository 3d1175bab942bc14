use Rattle.std.proofs.Common.{◌≡◌, ◌⊎◌, ◌+◌, ◌≤◌}
use Rattle.residual_tree.specs.Tree.{IsResidualTree}
use Rattle.senior_hold.specs.Serving.{IsTreeRaise, FillsExit}
use Rattle.senior_hold.proofs.tree_raises.raise_fully.Given as goal

abbrev pub invariant-loop-pushes : goal.invariant-loop-pushes
invariant-loop-pushes g l = record {
  raised : IsTreeRaise l.fn.circ l.circ l.claim;
  tree : IsResidualTree l.circ l.tree;
  left : l.left + l._pushes ≡ l.fn.left;
  cost : l.pushes ≤ l.fn.pushes + l._pushes;
  used : (l.fn.pushes + l._pushes ≤ l.pushes) ⊎ FillsExit l.fn.circ l.claim;
}
