use Rattle.std.proofs.Common.{sym, arith}
use Rattle.std.specs.Prelude.{slice_index}
use Rattle.finite_sums.proofs.Totals.{total_start, total_more}
use Rattle.draw_course.proofs.checking.are_little.Goals as goal

pub loop-place-init : goal.loop-place-init
loop-place-init c = record { sum = sym (total_start _); small = omega arith }

pub loop-place-preserved : goal.loop-place-preserved
loop-place-preserved c = record {
  sum = omega (
    arith,
    c.loop-place.invariant.sum,
    c.from-sum.ensures,
    total_more c.loop-place.place (λ n. slice_index c.args.amounts.now n),
  );
  small = omega (arith, c.loop-place.invariant.small, c.from-sum.ensures, c.type_inv.amounts c.loop-place.place);
}
