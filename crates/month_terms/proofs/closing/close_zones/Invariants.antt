use Rattle.std.proofs.Common.{ℕ, ◌≡◌, slice_index}
use Rattle.finite_sums.specs.Sums.{total_where}
use Rattle.water_model.specs.History.{is_zone_of}
use Rattle.month_terms.proofs.closing.close_zones.Given as goal

abbrev pub invariant-loop-right : goal.invariant-loop-right
invariant-loop-right l = (v : ℕ) →
    slice_index l.closing v ≡ total_where l.right (λ r. is_zone_of l.basin r v) (λ r. slice_index l.take r)
