use Rattle.std.proofs.Common.{◌≡◌, ◌*◌, ◌≤◌, length}
use Rattle.result_reader.specs.NodeLines.{AreNodeLines}
use Rattle.result_reader.proofs.node_lines.NodeLines.of.Given as goal

abbrev pub invariant-loop-node : goal.invariant-loop-node
invariant-loop-node l = record {
  lines : AreNodeLines l.basin l.text.items l.spans.items;
  count : length l.spans.items ≡ l.node;
  short : length l.text.items ≤ 36 * l.node;
}
