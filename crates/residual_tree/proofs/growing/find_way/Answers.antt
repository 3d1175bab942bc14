use Rattle.std.proofs.Common.{ℕ, ◌+◌, arith, ap}
use Rattle.residual_tree.specs.Repair.{IsShut}
use Rattle.circulation.proofs.Scans.{scan_start, scan_inside, scan_next, scan_end}
use Rattle.residual_tree.proofs.Opposites.{row_step}
use Rattle.residual_tree.proofs.Seeds.{found_way, found_none, shut_end}
use Rattle.residual_tree.proofs.growing.find_way.Goals as goal

pub loop-place-init : goal.loop-place-init
loop-place-init c = scan_start c.args.circ.now c.args.node _ _ c.row_first-place.ensures.place

pub step_at-step-requires : goal.step_at-step-requires
step_at-step-requires c = scan_inside c.args.circ.now c.args.node _ c.requires.kept c.requires.node
    (omega (arith, c.loop-place-test.true, c.row_last-place-end.ensures.place))

pub end_at-requires : goal.end_at-requires
end_at-requires c = scan_inside c.args.circ.now c.args.node _ c.requires.kept c.requires.node
    (omega (arith, c.loop-place-test.true, c.row_last-place-end.ensures.place))

pub is_way_back-requires : goal.is_way_back-requires
is_way_back-requires c =
    let at = row_step c.args.node c.requires.kept c.requires.node c.row_first-place.ensures.place
    c.row_last-place-end.ensures.place c.loop-place.auto.place c.loop-place-test.true c.step_at-step.ensures
    c.end_at.ensures in
    record { arc = at.arc; node = at.end; inside = at.inside; words = c.requires.words; kept = c.requires.kept }

pub opposite-requires-clause-arc : goal.opposite-requires-clause-arc
opposite-requires-clause-arc c =
    (row_step c.args.node c.requires.kept c.requires.node c.row_first-place.ensures.place
    c.row_last-place-end.ensures.place c.loop-place.auto.place c.loop-place-test.true c.step_at-step.ensures
    c.end_at.ensures).arc

pub loop-place-preserved : goal.loop-place-preserved
loop-place-preserved c = scan_next c.args.circ.now c.args.node c.loop-place.place c.step_at-step.result _
    (IsShut c.args.circ.now c.args.labels.now) c.loop-place.invariant c.step_at-step.ensures (λ t shut. shut)
    (c.is_way_back.ensures.no c.if-is_way_back.false)

pub returns-then-is_way_back : goal.returns-then-is_way_back
returns-then-is_way_back c =
    let at = row_step c.args.node c.requires.kept c.requires.node c.row_first-place.ensures.place
    c.row_last-place-end.ensures.place c.loop-place.auto.place c.loop-place-test.true c.step_at-step.ensures
    c.end_at.ensures in
    let yes = c.is_way_back.ensures.yes c.if-is_way_back.true in
    found_way c.args.circ.now c.args.labels.now c.args.node c.step_at-step.result at.arc at.start yes.0 yes.1
    (ap (λ (n : ℕ). n + 1) c.opposite.ensures)

pub returns : goal.returns
returns c = found_none c.args.circ.now c.args.labels.now c.args.node
    (shut_end (scan_end c.args.circ.now c.args.node _ _ c.requires.kept c.requires.node
    c.loop-place.invariant (omega (arith, c.loop-place-test.false, c.row_last-place-end.ensures.place))))
