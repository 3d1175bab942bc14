use Rattle.std.proofs.Common.{◌≡◌, ◌+◌, ◌≤◌, ◌*◌, arith, ap, ◌∙◌, length, List, ℕ, [], ◌∷◌, ◌++◌, length-append, refl}
use Rattle.std.specs.Prelude.{codes}
use Rattle.result_reader.specs.NodeLines.{member_text}
use Rattle.result_reader.proofs.NodeTexts.{more_lines, line_short}
use Rattle.result_reader.proofs.node_lines.NodeLines.of.Goals as goal

pub loop-node-init : goal.loop-node-init
loop-node-init c = record {
  lines = λ node span at. let none = rw c.new-spans.ensures.items at at in cc;
  count = rw c.new-spans.ensures.items refl;
  short = omega (arith, ap length c.new-text.ensures.items);
}

pub loop-node-preserved : goal.loop-node-preserved
loop-node-preserved c =
    let text = c.loop-node.text.items in
    let line = member_text c.args.basin.now c.loop-node.node in
    let added : c.add_line.new.text.items ≡ text ++ line =
    c.in_ok-add_line.ensures
    ∙ ap (λ (name : List ℕ). text ++ (codes "in " ++ (name ++ 10 ∷ [])))
    (c.bytes.ensures.value ∙ c.name_in.ensures) in
    let spans = c.loop-node.invariant.count in
    let starts : c.len-start.result ≡ length text = omega arith in
    let ends : c.len.result ≡ length (text ++ line) = omega (arith, ap length added) in
    let fits : length c.add_line.new.text.items ≤ 36 * (c.loop-node.node + 1) =
    rw c.in_ok-add_line.ensures
    (line_short c.bytes.result.now text c.loop-node.node c.bytes.ensures.short c.loop-node.invariant.short) in
    record {
      lines =
          rw (added, c.in_ok-push.ensures.items) (more_lines c.args.basin.now text c.loop-node.spans.items
          (record { start = c.len-start.result; end = c.len.result }) c.loop-node.node c.loop-node.invariant.lines
          (omega arith) starts ends);
      count =
          ap length c.in_ok-push.ensures.items
          ∙ (length-append c.loop-node.spans.items _ ∙ omega arith);
      short = fits;
    }
