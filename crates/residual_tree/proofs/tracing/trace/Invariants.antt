use Rattle.std.proofs.Common.{◌+◌, ◌<◌}
use Rattle.residual_tree.proofs.Traces.{IsTracing}
use Rattle.residual_tree.proofs.tracing.trace.Given as goal

abbrev pub invariant-loop-node : goal.invariant-loop-node
invariant-loop-node l = record {
  tracing : IsTracing l.fn.circ l.circ l.tree l.arc l.most l.walk.first l.node l.walk.amount l.walk.full;
  space : l.walk.full + 1 < l.walk.first;
}

abbrev pub decreases-loop-node : goal.decreases-loop-node
decreases-loop-node l = l.walk.first
