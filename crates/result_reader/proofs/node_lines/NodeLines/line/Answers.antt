use Rattle.std.proofs.Common.{refl, arith, ap, ◌∙◌, length, take, drop, List, ℕ, ◌-◌}
use Rattle.std.proofs.lemmas.Option.{slice_get_read}
use Rattle.result_reader.specs.NodeLines.{member_text, IsLineAt}
use Rattle.result_reader.proofs.node_lines.NodeLines.line.Goals.{After-index-span}
use Rattle.result_reader.proofs.node_lines.NodeLines.line.Goals as goal

line_at : (c : After-index-span) → IsLineAt c.args.self.now.text.items c.index-span.result.now
    (member_text c.args.self.now.basin.now c.args.node)
line_at c =
    c.args.self.now.lines c.args.node c.index-span.result.now
    (slice_get_read c.args.self.now.spans.items (length c.args.self.now.spans.items) c.args.node
    c.index-span.result.now refl (omega (arith, c.if-node-len.true)) c.index-span.ensures)

pub slice_bounds-result-count : goal.slice_bounds-result-count
slice_bounds-result-count c = (line_at (goal.at.slice_bounds-result-count c).After-index-span).in_order

pub slice_bounds-result-start : goal.slice_bounds-result-start
slice_bounds-result-start c =
    let at = line_at (goal.at.slice_bounds-result-start c).After-index-span in
    omega (arith, at.in_order, at.within, ap length c.deref.ensures.value)

pub slice_bounds-result-end : goal.slice_bounds-result-end
slice_bounds-result-end c =
    let at = line_at (goal.at.slice_bounds-result-end c).After-index-span in
    omega (arith, at.in_order, at.within, ap length c.deref.ensures.value)

pub returns-then-node-len-clause-line : goal.returns-then-node-len-clause-line
returns-then-node-len-clause-line c =
    let at = line_at (goal.at.returns-then-node-len-clause-line c).After-index-span in
    let span = c.index-span.result.now in
    ap (λ (t : List ℕ). take (span.end - span.start) (drop span.start t)) c.deref.ensures.value ∙ at.line_is
