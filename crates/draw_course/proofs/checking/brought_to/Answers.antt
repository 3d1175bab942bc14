use Rattle.std.proofs.Common.{sym, ap, arith}
use Rattle.std.specs.Prelude.{◌==◌, slice_index, unwrap_or, option_map}
use Rattle.finite_sums.proofs.Totals.{total_where_start}
use Rattle.water_model.specs.Basin.{head_of}
use Rattle.draw_course.proofs.Checks.{sum_on, sum_off}
use Rattle.draw_course.proofs.checking.brought_to.Goals as goal
use Rattle.draw_course.proofs.checking.brought_to.Goals.{then-index-node, else-index-node}

pub loop-place-init : goal.loop-place-init
loop-place-init c = record { sum = sym (total_where_start (λ e. head_of c.args.basin.now e == c.args.node) (λ e. slice_index c.args.flow.now e)); small = omega arith }

pub loop-place-preserved : goal.loop-place-preserved
loop-place-preserved c =
    let end = sym (ap (λ o. unwrap_or (option_map (λ x. x.to) o) 0) c.index.ensures) in
    elim c.if-index-node.branch [
      | then-index-node w ↦ record {
        sum = sum_on c.loop-place.place c.args.node w.from-sum.result c.loop-place.sum c.if-index-node.sum
            c.index.result.now.to (head_of c.args.basin.now) (λ e. slice_index c.args.flow.now e)
            c.loop-place.invariant.sum w.sum-is w.from-sum.ensures end w.if-index-node.true;
        small = omega (
          arith,
          w.sum-is,
          c.loop-place.invariant.small,
          w.from-sum.ensures,
          c.type_inv.flow c.loop-place.place,
        );
      }
      | else-index-node w ↦ record {
        sum = sum_off c.loop-place.place c.args.node c.loop-place.sum c.if-index-node.sum c.index.result.now.to
            (head_of c.args.basin.now) (λ e. slice_index c.args.flow.now e) c.loop-place.invariant.sum w.sum-is end
            w.if-index-node.false;
        small = omega (arith, w.sum-is, c.loop-place.invariant.small);
      }
    ]
