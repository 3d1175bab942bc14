use Rattle.std.proofs.Common.{arith}
use Rattle.circulation.proofs.Scans.{scan_inside}
use Rattle.residual_tree.proofs.Opposites.{row_step}
use Rattle.residual_tree.proofs.growing.nearest_way.Goals as goal

pub loop-place-init : goal.loop-place-init
loop-place-init c = λ s h. absurd (omega (arith, h))

pub is_way_back-requires-clause-words : goal.is_way_back-requires-clause-words
is_way_back-requires-clause-words c = c.requires.words

pub is_way_back-requires-clause-kept : goal.is_way_back-requires-clause-kept
is_way_back-requires-clause-kept c = c.requires.kept

pub opposite-word-requires-clause-kept : goal.opposite-word-requires-clause-kept
opposite-word-requires-clause-kept c = c.requires.kept

pub returns-clause-way : goal.returns-clause-way
returns-clause-way c = c.loop-place.invariant

pub row_first-place-requires : goal.row_first-place-requires
row_first-place-requires c = omega (arith, c.requires.node)

pub row_last-place-end-requires : goal.row_last-place-end-requires
row_last-place-end-requires c = omega (arith, c.requires.node)

pub step_at-step-requires : goal.step_at-step-requires
step_at-step-requires c = scan_inside c.args.circ.now c.args.node _ c.requires.kept
    (omega (arith, c.requires.node)) (omega (arith, c.loop-place-test.true, c.row_last-place-end.ensures.place))

pub end_at-end-requires : goal.end_at-end-requires
end_at-end-requires c = scan_inside c.args.circ.now c.args.node _ c.requires.kept
    (omega (arith, c.requires.node)) (omega (arith, c.loop-place-test.true, c.row_last-place-end.ensures.place))

pub is_way_back-requires-clause-arc : goal.is_way_back-requires-clause-arc
is_way_back-requires-clause-arc c =
    (row_step c.args.node c.requires.kept (omega (arith, c.requires.node)) c.row_first-place.ensures.place
    c.row_last-place-end.ensures.place c.loop-place.auto.place c.loop-place-test.true c.step_at-step.ensures
    c.end_at-end.ensures).arc

pub is_way_back-requires-clause-node : goal.is_way_back-requires-clause-node
is_way_back-requires-clause-node c =
    (row_step c.args.node c.requires.kept (omega (arith, c.requires.node)) c.row_first-place.ensures.place
    c.row_last-place-end.ensures.place c.loop-place.auto.place c.loop-place-test.true c.step_at-step.ensures
    c.end_at-end.ensures).end

pub is_way_back-requires-clause-inside : goal.is_way_back-requires-clause-inside
is_way_back-requires-clause-inside c =
    (row_step c.args.node c.requires.kept (omega (arith, c.requires.node)) c.row_first-place.ensures.place
    c.row_last-place-end.ensures.place c.loop-place.auto.place c.loop-place-test.true c.step_at-step.ensures
    c.end_at-end.ensures).inside

pub opposite-word-requires-clause-arc : goal.opposite-word-requires-clause-arc
opposite-word-requires-clause-arc c =
    (row_step c.args.node c.requires.kept (omega (arith, c.requires.node)) c.row_first-place.ensures.place
    c.row_last-place-end.ensures.place c.loop-place.auto.place c.loop-place-test.true c.step_at-step.ensures
    c.end_at-end.ensures).arc
