use Rattle.circulation.specs.Contents.{IsCirculation}
use Rattle.augment.proofs.Traces.{IsTracing}
use Rattle.augment.proofs.tracing.trace.Given as goal

abbrev pub invariant-loop-node : goal.invariant-loop-node
invariant-loop-node l = record {
  tracing : IsTracing l.fn.circ l.circ l.arc l.most l.first l.node l.amount;
  kept : IsCirculation l.circ;
}

abbrev pub decreases-loop-node : goal.decreases-loop-node
decreases-loop-node l = l.first
