use Rattle.std.proofs.Common.{arith}
use Rattle.augment.proofs.Scans.{trying_start, trying_at, trying_inside, trying_next, trying_end}
use Rattle.augment.proofs.searching.scan.Goals as goal

pub loop-place-init : goal.loop-place-init
loop-place-init c = record {
  trying = trying_start _ _ _ _ _ _ c.requires.tree c.row_first-place.ensures.place;
  kept = c.requires.kept;
}

pub step_at-step-requires : goal.step_at-step-requires
step_at-step-requires c = trying_inside c.requires.kept c.requires.node c.loop-place.invariant.trying
    (omega (arith, c.loop-place-test.true, c.row_last-place-end.ensures.place))

pub end_at-requires : goal.end_at-requires
end_at-requires c = trying_inside c.requires.kept c.requires.node c.loop-place.invariant.trying
    (omega (arith, c.loop-place-test.true, c.row_last-place-end.ensures.place))

pub try_step-count-requires : goal.try_step-count-requires
try_step-count-requires c =
    let at = trying_at _ _ c.requires.kept c.requires.node c.requires.marked c.loop-place.invariant.trying
    (omega (arith, c.loop-place.auto.place, c.row_first-place.ensures.place))
    (omega (arith, c.loop-place-test.true, c.row_last-place-end.ensures.place)) c.step_at-step.ensures
    c.end_at.ensures in
    record {
      step = at.arc;
      end = at.end;
      marked = at.marked;
      tree = c.loop-place.invariant.trying.visited.tree;
      kept = c.loop-place.invariant.kept;
    }

pub loop-place-preserved : goal.loop-place-preserved
loop-place-preserved c = record {
  trying = trying_next _ c.requires.kept c.loop-place.invariant.trying c.step_at-step.ensures
      c.try_step-count.ensures.visited c.try_step-count.ensures.done;
  kept = c.try_step-count.ensures.kept;
}

pub returns-clause-visited : goal.returns-clause-visited
returns-clause-visited c = c.loop-place.invariant.trying.visited

pub returns-clause-done : goal.returns-clause-done
returns-clause-done c = λ _. trying_end c.requires.kept c.requires.node c.loop-place.invariant.trying
    (omega (arith, c.loop-place-test.false, c.row_last-place-end.ensures.place))
