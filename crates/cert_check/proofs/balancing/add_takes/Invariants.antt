use Rattle.std.proofs.Common.{ℕ, ◌≡◌, ◌+◌, slice_index}
use Rattle.finite_sums.specs.Sums.{total_where}
use Rattle.water_model.specs.Basin.{takes_at}
use Rattle.cert_check.proofs.balancing.add_takes.Given as goal

abbrev pub invariant-loop-right : goal.invariant-loop-right
invariant-loop-right l = (n : ℕ) → slice_index l.out_of n ≡ slice_index l.fn.out_of n
    + total_where l.right (λ r. takes_at l.basin r n) (λ r. slice_index l.take r)
