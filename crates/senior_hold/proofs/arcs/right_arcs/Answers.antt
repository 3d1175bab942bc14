use Rattle.std.proofs.Common.{◌∙◌, ◌+◌, ℕ, length, arith, ap, sym}
use Rattle.finite_sums.proofs.Totals.{count_at_most, total_where_start}
use Rattle.senior_hold.specs.MonthNetwork.{takes, right_arc}
use Rattle.senior_hold.proofs.Lists.{pushed_each, pushed_count}
use Rattle.senior_hold.proofs.RightKinds.{instream_arc, taker_arc, take_arc_skip, take_arc_step}
use Rattle.senior_hold.proofs.arcs.right_arcs.Goals as goal
use Rattle.senior_hold.proofs.arcs.right_arcs.Goals.{in-Instream+in_ok-push, in_default+in_ok-push-2}

pub loop-right-init : goal.loop-right-init
loop-right-init c = record {
  next = omega (arith, c.len-next.ensures, total_where_start (λ r. takes c.args.basin.now r) (λ k. 1));
  count = ap length c.new-arcs.ensures.items;
  each = λ r l. absurd (omega arith);
}

pub overflow_add-next : goal.overflow_add-next
overflow_add-next c =
    omega (
      arith,
      c.loop-right.invariant.next,
      count_at_most c.loop-right.right (λ r. takes c.args.basin.now r),
      c.requires.bounded.links,
      c.requires.bounded.rights,
      c.loop-right-test.true,
      c.len-right-end.ensures,
    )

pub loop-right-preserved : goal.loop-right-preserved
loop-right-preserved c = elim c.match-index.branch [
  | in-Instream+in_ok-push w ↦
      (let on = instream_arc c.args.basin.now c.loop-right.right w.in-Instream.link c.index.result.now c.index.ensures
      w.in-Instream.is in record {
        next = w.next-is ∙ (c.loop-right.invariant.next ∙ take_arc_skip c.args.basin.now c.loop-right.right on.none);
        count = rw w.arcs-is (pushed_count _ _ _ _ w.in_ok-push.ensures.items c.loop-right.invariant.count);
        each = rw w.arcs-is (pushed_each (right_arc c.args.basin.now) _ _ _ _ w.in_ok-push.ensures.items
            c.loop-right.invariant.count c.loop-right.invariant.each (sym on.arc));
      })
  | in_default+in_ok-push-2 w ↦
      (let at = taker_arc c.args.basin.now c.loop-right.right c.index.result.now c.requires
      (omega (arith, c.loop-right-test.true, c.len-right-end.ensures)) c.index.ensures w.in_default.not-Instream in
      record {
        next = w.next-is ∙ (ap (λ (n : ℕ). n + 1) c.loop-right.invariant.next
            ∙ take_arc_step c.args.basin.now c.loop-right.right at.takes_here);
        count = rw w.arcs-is (pushed_count _ _ _ _ w.in_ok-push-2.ensures.items c.loop-right.invariant.count);
        each = rw w.arcs-is (pushed_each (right_arc c.args.basin.now) _ _ _ _ w.in_ok-push-2.ensures.items
            c.loop-right.invariant.count c.loop-right.invariant.each (c.loop-right.invariant.next ∙ sym at.arc));
      })
]
