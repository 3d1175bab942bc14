use Rattle.std.proofs.Common.{ℕ, ◌≡◌, ◌+◌, ◌-◌, slice_index}
use Rattle.finite_sums.specs.Sums.{total_where}
use Rattle.water_model.specs.Basin.{is_at, node_of_reservoir}
use Rattle.month_terms.proofs.supply.add_stored.Given as goal

abbrev pub invariant-loop-reservoir : goal.invariant-loop-reservoir
invariant-loop-reservoir l = (n : ℕ) → slice_index l.supply n ≡ slice_index l.fn.supply n
    + total_where l.reservoir (λ v. is_at (node_of_reservoir l.basin v) n)
    (λ v. slice_index l.opening v - slice_index l.evaporated v)
