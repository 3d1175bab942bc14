use Rattle.std.proofs.Common.{◌≤◌, ◌≡◌, length}
use Rattle.plan_residual.specs.Queue.{IsQueue}
use Rattle.plan_residual.proofs.visits.Queue.forget.Given as goal

abbrev pub invariant-loop-position : goal.invariant-loop-position
invariant-loop-position l = record {
  queue : IsQueue (record { seen = l.self-inside.seen.items; nodes = l.self-inside.nodes.items; size = l.position });
  above : l.size ≤ l.position;
  count : length l.self-inside.seen.items ≡ length l.initial.self-inside.seen.items;
  nodes : l.self-inside.nodes.items ≡ l.initial.self-inside.nodes.items;
}
