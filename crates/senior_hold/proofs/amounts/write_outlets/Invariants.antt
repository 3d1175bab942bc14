use Rattle.std.proofs.Common.{◌≡◌, ℕ, ◌<◌, ◌^◌, slice_index}
use Rattle.finite_sums.specs.Sums.{when}
use Rattle.water_model.specs.Basin.{is_outlet}
use Rattle.senior_hold.proofs.amounts.write_outlets.Given as goal

abbrev pub invariant-loop-node : goal.invariant-loop-node
invariant-loop-node l = (n : ℕ) → n < l.node → slice_index l.into n ≡ when (is_outlet l.basin n) (10 ^ 15)
