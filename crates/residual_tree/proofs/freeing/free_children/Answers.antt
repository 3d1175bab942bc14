use Rattle.std.proofs.Common.{List, ℕ, ◌≢◌, ◌+◌, ◌≤◌, arith}
use Rattle.circulation.specs.Contents.{Contents, network}
use Rattle.circulation.specs.Residual.{end_of}
use Rattle.residual_tree.specs.Tree.{label_of}
use Rattle.circulation.proofs.Scans.{scan_next, scan_end}
use Rattle.residual_tree.proofs.Opposites.{row_step}
use Rattle.residual_tree.proofs.Frees.{IsOrphaning, freeing_room, orphaning_next, orphaning_end}
use Rattle.residual_tree.proofs.freeing.free_children.Goals as goal

-- the node is a basin node
inside : (c : Contents) (labels freed : List ℕ) (at done size node : ℕ) → IsOrphaning c labels freed at done size node →
    node ≤ c.nodes
inside c labels freed at done size node o = omega (arith, o.state.within done o.order, o.occurs)

pub free_end-count-requires-clause-node : goal.free_end-count-requires-clause-node
free_end-count-requires-clause-node c =
    let state = c.loop-place.invariant.state.1 in
    let at = row_step _ c.requires.kept (inside _ _ _ _ _ _ _ state) c.row_first-place.ensures.place
    c.row_last-place-end.ensures.place c.loop-place.auto.place c.loop-place-test.true c.step_at-step.ensures
    c.end_at.ensures in
    omega (arith, at.inside, state.state.tree.words)

pub free_end-count-requires-clause-room : goal.free_end-count-requires-clause-room
free_end-count-requires-clause-room c = λ is.
    let state = c.loop-place.invariant.state.1 in
    let at = row_step _ c.requires.kept (inside _ _ _ _ _ _ _ state) c.row_first-place.ensures.place
    c.row_last-place-end.ensures.place c.loop-place.auto.place c.loop-place-test.true c.step_at-step.ensures
    c.end_at.ensures in
    freeing_room c.step_at-step.result c.requires.kept at.arc state.state (rw at.end is)

pub loop-place-preserved : goal.loop-place-preserved
loop-place-preserved c =
    let state = c.loop-place.invariant.state.1 in
    let at = row_step _ c.requires.kept (inside _ _ _ _ _ _ _ state) c.row_first-place.ensures.place
    c.row_last-place-end.ensures.place c.loop-place.auto.place c.loop-place-test.true c.step_at-step.ensures
    c.end_at.ensures in
    let e = c.free_end-count.ensures in
    let next = orphaning_next c.requires.kept at.arc state at.end record { child = e.child; other = e.other } in
    record {
      state = (c.loop-place.invariant.state.0, next.0);
      scan = scan_next c.args.circ.now _ c.loop-place.place c.step_at-step.result _
          (λ s. label_of c.free_end-count.new.labels (end_of (network c.args.circ.now) s) ≢ s + 1)
          c.loop-place.invariant.scan c.step_at-step.ensures
          (λ s. next.1.words (end_of (network c.args.circ.now) s) s) next.1.gone;
    }

pub returns : goal.returns
returns c =
    let state = c.loop-place.invariant.state.1 in (
      c.loop-place.invariant.state.0,
      orphaning_end state
          (scan_end c.args.circ.now _ _ _ c.requires.kept (inside _ _ _ _ _ _ _ state) c.loop-place.invariant.scan
          (omega (arith, c.loop-place-test.false, c.row_last-place-end.ensures.place))),
    )
