use Rattle.std.proofs.Common.{◌≡◌, ℕ, ◌+◌, ◌*◌, ◌^◌, ◌<◌, ◌≤◌, length, get_or}
use Rattle.finite_sums.specs.Sums.{total}
use Rattle.water_model.specs.Lookups.{of_entry}
use Rattle.lag_returns.specs.ReturnFlows.{brought_to}
use Rattle.lag_returns.proofs.arrive_each.Given as goal

abbrev pub invariant-loop-flow : goal.invariant-loop-flow
invariant-loop-flow l = record {
  indices : length l.into ≡ length l.fn.into;
  added : (n : ℕ) → n < length l.into →
      get_or l.into n 0 ≡ get_or l.fn.into n 0 + total l.flow-index (λ k. of_entry l.fn.flows k (brought_to n) 0);
  small : (n : ℕ) → n < length l.into → get_or l.into n 0 ≤ get_or l.fn.into n 0 + 10 ^ 9 * l.flow-index;
}
