use Rattle.std.proofs.Common.{length, arith}
use Rattle.std.specs.Prelude.{slice_index, if◌then◌else◌}
use Rattle.water_model.specs.Valid.{is_diversion}
use Rattle.reports.proofs.Sums.{next_fits}
use Rattle.reports.proofs.waters.diverted.Goals as goal

pub overflow_add-sum : goal.overflow_add-sum
overflow_add-sum c = omega (
  arith,
  next_fits c.loop-right.right (length c.args.basin.now.rights)
      (λ r. if is_diversion c.args.basin.now r then slice_index c.args.month.now.delivered r else 0) (omega arith),
)
