use Rattle.std.proofs.Common.{◌≤◌}
use Rattle.residual_tree.specs.Adopting.{IsClear}
use Rattle.residual_tree.proofs.adopting.is_near.Given as goal

abbrev pub invariant-loop-steps : goal.invariant-loop-steps
invariant-loop-steps l = record {
  within : l.at ≤ l.circ.nodes;
  clear : IsClear l.circ l.labels l.other l.at → IsClear l.circ l.labels l.other l.node;
}
