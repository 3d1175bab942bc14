use Rattle.std.proofs.Common.{ℕ, ◌≡◌, ◌+◌, ◌-◌, ◌*◌, ◌^◌, ◌<◌, ◌≤◌}
use Rattle.circulation.specs.Network.{IsFlow, IsGreatestCut}
use Rattle.circulation.specs.Contents.{flow_of, network, IsCirculation, SameButFlow}
use Rattle.augment.specs.Raised.{open_arcs, not_reached}
use Rattle.augment.proofs.raising.run_phases.Given as goal

abbrev pub invariant-loop-left : goal.invariant-loop-left
invariant-loop-left g l = record {
  rest : SameButFlow l.fn.circ l.circ;
  kept : IsCirculation l.circ;
  limit : flow_of l.circ l.arc ≤ l.want;
  within : l.left ≤ l.count;
  power : 0 < l.left → l.least ≡ 2 ^ (l.left - 1);
  reach : flow_of l.circ l.arc < l.want → 0 < l.left → (h : ℕ → ℕ) → IsFlow
      (network l.fn.circ) h → h l.arc ≤ l.want →
      h l.arc ≤ flow_of l.circ l.arc + open_arcs (network l.fn.circ) * (2 * l.least - 1);
  cut : flow_of l.circ l.arc < l.want → l.left ≡ 0 → IsGreatestCut (network l.fn.circ) (flow_of l.circ) l.arc
      (not_reached l.circ);
  cost : l.pushes ≤ l.fn.pushes + (l.count - l.left) * (2 * open_arcs (network l.fn.circ) + 1);
}
