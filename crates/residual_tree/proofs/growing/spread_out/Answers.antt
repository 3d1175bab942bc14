use Rattle.std.proofs.Common.{ℕ, ◌+◌, slice_index, ap, ◌∙◌, arith}
use Rattle.circulation.specs.Contents.{network}
use Rattle.circulation.specs.Residual.{end_of}
use Rattle.circulation.proofs.Scans.{IsAt, scan_start, scan_at, scan_next, scan_end}
use Rattle.residual_tree.proofs.Grows.{IsTried, growing_room, inner_end}
use Rattle.residual_tree.proofs.Outgoing.{outgoing_start, outgoing_next, outgoing_end}
use Rattle.residual_tree.proofs.growing.spread_out.Goals as goal
use Rattle.residual_tree.proofs.growing.spread_out.Goals.{After-end_at}

pub loop-place-init : goal.loop-place-init
loop-place-init c =
    let d = c.args.circ.now in
    record {
      state = outgoing_start c.args.queue.now c.requires.kept c.requires.places c.requires.bare;
      scan = scan_start d d.nodes c.row_first-place.result (IsTried d c.args.labels.now)
          (c.row_first-place.ensures.place ∙ ap (slice_index d.rows.first) c.nodes-outside.ensures.number);
    }

-- the step that is tried
step_here : (c : After-end_at) → IsAt c.args.circ.now c.args.circ.now.nodes c.step_at-step.result c.end_at.result
step_here c =
    let d = c.args.circ.now in
    let first = c.row_first-place.ensures.place ∙ ap (slice_index d.rows.first) c.nodes-outside.ensures.number in
    let last = c.row_last-place-end.ensures.place
    ∙ ap (λ (n : ℕ). slice_index d.rows.first (n + 1)) c.nodes-outside.ensures.number in
    scan_at d d.nodes c.loop-place.place c.step_at-step.result c.end_at.result c.requires.kept (omega arith)
    (omega (arith, c.loop-place.auto.place, first)) (omega (arith, c.loop-place-test.true, last))
    c.step_at-step.ensures c.end_at.ensures

pub label_end-count-requires-clause-room : goal.label_end-count-requires-clause-room
label_end-count-requires-clause-room c = λ unlabeled.
    let d = c.args.circ.now in
    let grows = c.loop-place.invariant.state.grows in
    growing_room (end_of (network d) c.step_at-step.result)
    (inner_end c.loop-place.labels c.step_at-step.result c.requires.kept (step_here c).arc grows.tree.root unlabeled)
    grows unlabeled

pub loop-place-preserved : goal.loop-place-preserved
loop-place-preserved c =
    let d = c.args.circ.now in
    let first = c.row_first-place.ensures.place ∙ ap (slice_index d.rows.first) c.nodes-outside.ensures.number in
    let last = c.row_last-place-end.ensures.place
    ∙ ap (λ (n : ℕ). slice_index d.rows.first (n + 1)) c.nodes-outside.ensures.number in
    let at = scan_at d d.nodes c.loop-place.place c.step_at-step.result c.end_at.result c.requires.kept (omega arith)
    (omega (arith, c.loop-place.auto.place, first)) (omega (arith, c.loop-place-test.true, last))
    c.step_at-step.ensures c.end_at.ensures in
    let e = c.label_end-count.ensures in
    let next = outgoing_next c.requires.kept c.loop-place.invariant.state at.arc at.start
    record { fresh = e.fresh; seen = e.seen; full = e.full } in
    record {
      state = next.next;
      scan = scan_next d d.nodes c.loop-place.place c.step_at-step.result (IsTried d c.loop-place.labels)
          (IsTried d c.label_end-count.new.labels) c.loop-place.invariant.scan c.step_at-step.ensures
          (λ s tried room. next.more (end_of (network d) s) (tried room)) next.here;
    }

pub returns : goal.returns
returns c =
    let d = c.args.circ.now in
    let last = c.row_last-place-end.ensures.place
    ∙ ap (λ (n : ℕ). slice_index d.rows.first (n + 1)) c.nodes-outside.ensures.number in
    outgoing_end c.loop-place.invariant.state
    (scan_end d d.nodes c.loop-place.place (IsTried d c.loop-place.labels) c.requires.kept (omega arith)
    c.loop-place.invariant.scan (omega (arith, c.loop-place-test.false, last)))
