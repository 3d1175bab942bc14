use Rattle.std.proofs.Common.{◌∙◌, ap, sym, arith}
use Rattle.std.specs.Prelude.{is_some}
use Rattle.finite_sums.proofs.Totals.{total_where_start, count_at_most}
use Rattle.senior_hold.specs.MonthNetwork.{takes}
use Rattle.senior_hold.proofs.Numbers.{counted_more, counted_same}
use Rattle.senior_hold.proofs.arcs.count_takers.Goals as goal
use Rattle.senior_hold.proofs.arcs.count_takers.Goals.{then-is_some, else-is_some}

pub loop-right-init : goal.loop-right-init
loop-right-init c = sym (total_where_start (λ r. takes c.args.basin.now r) (λ k. 1))

pub overflow_add-count : goal.overflow_add-count
overflow_add-count c = omega (
  arith,
  c.loop-right.invariant,
  count_at_most c.loop-right.right (λ r. takes c.args.basin.now r),
  c.loop-right-test.true,
  c.len-right-end.ensures,
  c.requires.bounded.rights,
)

pub loop-right-preserved : goal.loop-right-preserved
loop-right-preserved c = elim c.if-is_some.branch [
  | then-is_some w ↦ counted_more c.args.basin.now c.loop-right.right c.loop-right.count _ w.count-is
      c.loop-right.invariant (ap is_some (sym c.taking_node.ensures.value) ∙ sym c.is_some.ensures ∙ w.if-is_some.true)
  | else-is_some w ↦ counted_same c.args.basin.now c.loop-right.right c.loop-right.count _ w.count-is
      c.loop-right.invariant (ap is_some (sym c.taking_node.ensures.value) ∙ sym c.is_some.ensures ∙ w.if-is_some.false)
]
