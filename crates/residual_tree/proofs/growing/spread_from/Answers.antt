use Rattle.std.proofs.Common.{List, ℕ, ◌≤◌, arith, refl}
use Rattle.circulation.specs.Contents.{Contents, network}
use Rattle.circulation.specs.Residual.{end_of}
use Rattle.circulation.proofs.Scans.{scan_start, scan_inside, scan_next, scan_end}
use Rattle.residual_tree.proofs.Opposites.{row_step}
use Rattle.residual_tree.proofs.Grows.{IsSpreading, IsTried, queue_short, growing_room, inner_end, spreading_next}
use Rattle.residual_tree.proofs.Grows.{spreading_end}
use Rattle.residual_tree.proofs.growing.spread_from.Goals as goal

-- the node is a basin node
inside : (c : Contents) (artificial : ℕ) (labels queue : List ℕ) (done size node : ℕ) →
    IsSpreading c artificial labels queue done size node → node ≤ c.nodes
inside c artificial labels queue done size node p = omega (arith, (p.state.marked done p.order).0, p.occurs)

pub offset_bounds-queue-done : goal.offset_bounds-queue-done
offset_bounds-queue-done g c =
    let short = queue_short c.requires.1.0 in
    omega (arith, short, c.requires.0, c.requires.1.1.shape.bounded_nodes)

pub bounds-queue-done : goal.bounds-queue-done
bounds-queue-done g c =
    let short = queue_short c.requires.1.0 in
    omega (arith, short, c.requires.0, c.requires.1.0.places)

pub label_end-count-requires-clause-inside : goal.label_end-count-requires-clause-inside
label_end-count-requires-clause-inside g c =
    (row_step _ c.requires.1.1 (inside _ _ _ _ _ _ _ c.loop-place.invariant.state) c.row_first-place.ensures.place
    c.row_last-place-end.ensures.place c.loop-place.auto.place c.loop-place-test.true c.step_at-step.ensures
    c.end_at.ensures).inside

pub label_end-count-requires-clause-room : goal.label_end-count-requires-clause-room
label_end-count-requires-clause-room g c = λ unlabeled.
    let state = c.loop-place.invariant.state in
    let at = row_step _ c.requires.1.1 (inside _ _ _ _ _ _ _ state) c.row_first-place.ensures.place
    c.row_last-place-end.ensures.place c.loop-place.auto.place c.loop-place-test.true c.step_at-step.ensures
    c.end_at.ensures in
    growing_room _ (inner_end c.loop-place.labels c.step_at-step.result c.requires.1.1 at.arc state.state.tree.root
    unlabeled) state.state unlabeled

pub loop-place-preserved : goal.loop-place-preserved
loop-place-preserved g c =
    let state = c.loop-place.invariant.state in
    let at = row_step _ c.requires.1.1 (inside _ _ _ _ _ _ _ state) c.row_first-place.ensures.place
    c.row_last-place-end.ensures.place c.loop-place.auto.place c.loop-place-test.true c.step_at-step.ensures
    c.end_at.ensures in
    let e = c.label_end-count.ensures in
    let next = spreading_next c.requires.1.1 state at.arc at.start
    record { fresh = e.fresh; seen = e.seen; full = e.full } in
    record {
      state = next.next;
      more = λ v m. next.more v (c.loop-place.invariant.more v m);
      scan = scan_next c.args.circ.now _ c.loop-place.place c.step_at-step.result _
          (IsTried c.args.circ.now c.label_end-count.new.labels) c.loop-place.invariant.scan c.step_at-step.ensures
          (λ s tried room. next.more (end_of (network c.args.circ.now) s) (tried room)) next.here;
    }

pub returns-clause-tree : goal.returns-clause-tree
returns-clause-tree g c =
    let state = c.loop-place.invariant.state in
    spreading_end state
    (scan_end c.args.circ.now _ _ _ c.requires.1.1 (inside _ _ _ _ _ _ _ state) c.loop-place.invariant.scan
    (omega (arith, c.loop-place-test.false, c.row_last-place-end.ensures.place)))

pub label_end-count-requires-clause-kept : goal.label_end-count-requires-clause-kept
label_end-count-requires-clause-kept g c = c.row_first-place.ensures.kept

pub returns-clause-more : goal.returns-clause-more
returns-clause-more g c = c.loop-place.invariant.more

pub row_first-place-requires : goal.row_first-place-requires
row_first-place-requires g c = let below = (c.requires.1.0.marked c.args.done c.requires.0).0 in omega (arith, below)

pub row_last-place-end-requires : goal.row_last-place-end-requires
row_last-place-end-requires g c = let below = (c.requires.1.0.marked c.args.done c.requires.0).0 in omega (arith, below)

pub loop-place-init : goal.loop-place-init
loop-place-init g c = record {
  state = record {
    state = c.requires.1.0;
    occurs = refl;
    order = c.requires.0;
    labeled = (c.requires.1.0.marked c.args.done c.requires.0).1;
  };
  more = λ v m. m;
  scan = scan_start _ _ _ _ c.row_first-place.ensures.place;
}

pub step_at-step-requires : goal.step_at-step-requires
step_at-step-requires g c = scan_inside _ _ _ c.requires.1.1
    (inside _ _ _ _ _ _ _ c.loop-place.invariant.state)
    (omega (arith, c.loop-place-test.true, c.row_last-place-end.ensures.place))

pub end_at-requires : goal.end_at-requires
end_at-requires g c = scan_inside _ _ _ c.requires.1.1
    (inside _ _ _ _ _ _ _ c.loop-place.invariant.state)
    (omega (arith, c.loop-place-test.true, c.row_last-place-end.ensures.place))

pub label_end-count-requires-clause-arc : goal.label_end-count-requires-clause-arc
label_end-count-requires-clause-arc g c =
    (row_step _ c.requires.1.1 (inside _ _ _ _ _ _ _ c.loop-place.invariant.state) c.row_first-place.ensures.place
    c.row_last-place-end.ensures.place c.loop-place.auto.place c.loop-place-test.true c.step_at-step.ensures
    c.end_at.ensures).arc

pub label_end-count-requires-clause-start : goal.label_end-count-requires-clause-start
label_end-count-requires-clause-start g c =
    (row_step _ c.requires.1.1 (inside _ _ _ _ _ _ _ c.loop-place.invariant.state) c.row_first-place.ensures.place
    c.row_last-place-end.ensures.place c.loop-place.auto.place c.loop-place-test.true c.step_at-step.ensures
    c.end_at.ensures).start

pub label_end-count-requires-clause-node : goal.label_end-count-requires-clause-node
label_end-count-requires-clause-node g c =
    (row_step _ c.requires.1.1 (inside _ _ _ _ _ _ _ c.loop-place.invariant.state) c.row_first-place.ensures.place
    c.row_last-place-end.ensures.place c.loop-place.auto.place c.loop-place-test.true c.step_at-step.ensures
    c.end_at.ensures).end

pub label_end-count-requires-clause-words : goal.label_end-count-requires-clause-words
label_end-count-requires-clause-words g c = c.loop-place.invariant.state.state.tree.words
