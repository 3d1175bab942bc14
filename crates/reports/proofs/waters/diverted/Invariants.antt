use Rattle.std.proofs.Common.{◌≡◌, slice_index}
use Rattle.finite_sums.specs.Sums.{total_where}
use Rattle.water_model.specs.Valid.{is_diversion}
use Rattle.reports.proofs.waters.diverted.Given as goal

abbrev pub invariant-loop-right : goal.invariant-loop-right
invariant-loop-right l =
    l.sum ≡ total_where l.right (λ r. is_diversion l.basin r) (λ r. slice_index l.month.delivered r)
