use Rattle.std.proofs.Common.{arith, length}
use Rattle.stored_water.proofs.Sums.{sum_start, sum_more, sum_fits}
use Rattle.stored_water.proofs.shares.sum_of.Goals as goal

pub loop-i-init : goal.loop-i-init
loop-i-init c = grind (arith, sum_start)

pub loop-i-preserved : goal.loop-i-preserved
loop-i-preserved c = grind (arith, sum_more)

pub overflow_add-all : goal.overflow_add-all
overflow_add-all c =
    omega (arith, sum_fits c.args.weights.now c.loop-i.i (length c.args.weights.now) (omega arith))
