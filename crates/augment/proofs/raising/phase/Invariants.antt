use Rattle.std.proofs.Common.{◌+◌, ◌-◌, ◌*◌, ◌<◌, ◌≤◌}
use Rattle.circulation.specs.Contents.{flow_of, network, SameButFlow}
use Rattle.augment.specs.Raised.{open_arcs}
use Rattle.augment.proofs.raising.phase.Given as goal

abbrev pub invariant-loop-circ : goal.invariant-loop-circ
invariant-loop-circ g l = record {
  rest : SameButFlow l.fn.circ l.circ;
  limit : flow_of l.circ l.arc ≤ l.want;
  rises : flow_of l.fn.circ l.arc ≤ flow_of l.circ l.arc;
  counted : l.fn.pushes ≤ l.pushes;
  each : flow_of l.circ l.arc < l.want → (l.pushes - l.fn.pushes) * l.least + flow_of l.fn.circ l.arc
      ≤ flow_of l.circ l.arc;
  cost : l.pushes ≤ l.fn.pushes + (2 * open_arcs (network l.fn.circ) + 1);
}

abbrev pub decreases-loop-circ : goal.decreases-loop-circ
decreases-loop-circ g l = l.want - flow_of l.circ l.arc
