use Rattle.std.proofs.Common.{arith, length}
use Rattle.finite_sums.proofs.Totals.{count_at_most}
use Rattle.senior_hold.specs.MonthNetwork.{takes}
use Rattle.senior_hold.proofs.arcs.first_spill.Goals as goal

pub overflow_add-result : goal.overflow_add-result
overflow_add-result c =
    omega (
      arith,
      c.len.ensures,
      c.count_takers.ensures,
      count_at_most (length c.args.basin.now.rights) (λ r. takes c.args.basin.now r),
      c.requires.bounded.links,
      c.requires.bounded.rights,
    )
