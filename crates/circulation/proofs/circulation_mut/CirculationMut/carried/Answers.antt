use Rattle.std.proofs.Common.{◌≡◌, ◌==◌, ◌+◌, ◌%◌, length, slice_index, arith, ◌∙◌}
use Rattle.std.proofs.lemmas.Bool.{eq-eqb, ne_eqb}
use Rattle.circulation.proofs.RowSums.{row_sum_start, row_sum_on, row_sum_off, row_sum_small, row_sum_all}
use Rattle.circulation.proofs.RowSums.{left_by, row_flow, amounts_small}
use Rattle.circulation.proofs.circulation_mut.CirculationMut.carried.Goals as goal
use Rattle.circulation.proofs.circulation_mut.CirculationMut.carried.Goals.{then-step-way, else-step-way}

pub loop-place-init : goal.loop-place-init
loop-place-init c = row_sum_start _ _ _ _ c.row_first-place.ensures.place

pub step_at-step-requires : goal.step_at-step-requires
step_at-step-requires c =
    let row = c.row_last-place-end.ensures.kept.rows.rows c.args.node c.requires.node in
    omega (arith, row.within, c.row_last-place-end.ensures.place)

pub overflow_add-sum : goal.overflow_add-sum
overflow_add-sum c =
    let small = row_sum_small c.type_inv.amounts c.loop-place.invariant in
    omega (arith, small, c.from-sum.ensures)

pub loop-place-preserved : goal.loop-place-preserved
loop-place-preserved c = elim c.if-step-way.branch [
  | then-step-way w ↦ row_sum_on c.loop-place.invariant c.step_at-step.ensures
      (eq-eqb (c.step_at-step.result % 2) c.args.way w.if-step-way.true) (omega (arith, w.sum-is, w.from-sum.ensures))
  | else-step-way w ↦ row_sum_off c.loop-place.invariant c.step_at-step.ensures
      (ne_eqb (c.step_at-step.result % 2) c.args.way w.if-step-way.false) w.sum-is
]

pub returns-clause-sum : goal.returns-clause-sum
returns-clause-sum c =
    let row = c.row_last-place-end.ensures.kept.rows.rows c.args.node c.requires.node in
    let end : c.loop-place.place ≡ slice_index c.args.self.now.rows.first (c.args.node + 1) = omega (
      arith,
      c.loop-place-test.false,
      c.loop-place.auto.place-end,
      row.order,
      c.row_first-place.ensures.place,
      c.row_last-place-end.ensures.place,
    ) in
    row_sum_all end c.loop-place.invariant ∙ row_flow c.args.way (slice_index c.args.amounts.now) c.requires.way row

pub returns-clause-small : goal.returns-clause-small
returns-clause-small c =
    let kept = c.row_last-place-end.ensures.kept in
    let d = c.args.self.now in
    let most = amounts_small (length d.from) (λ a. left_by c.args.way d.from d.to a == c.args.node)
    c.args.amounts.now c.type_inv.amounts in
    omega (arith, most, kept.shape.bounded_arcs, returns-clause-sum c)
