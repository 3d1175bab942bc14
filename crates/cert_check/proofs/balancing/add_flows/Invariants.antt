use Rattle.std.proofs.Common.{ℕ, ◌≡◌, ◌+◌, slice_index}
use Rattle.std.specs.Prelude.{◌==◌}
use Rattle.finite_sums.specs.Sums.{total_where}
use Rattle.cert_check.specs.Ready.{end_at}
use Rattle.cert_check.proofs.balancing.add_flows.Given as goal

abbrev pub invariant-loop-link : goal.invariant-loop-link
invariant-loop-link l = (n : ℕ) → slice_index l.sums n ≡ slice_index l.fn.sums n
    + total_where l.link (λ e. end_at l.basin l.to e == n) (λ e. slice_index l.flow e)
