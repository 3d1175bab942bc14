use Rattle.std.proofs.Common.{◌≡◌, ℕ, ◌<◌, true}
use Rattle.std.specs.Prelude.{◌⊎◌}
use Rattle.water_model.specs.Lookups.{has}
use Rattle.cut_cert.specs.Sets.{cut_at}
use Rattle.plan_residual.proofs.deciding.covers.Given as goal

abbrev pub invariant-loop-node : goal.invariant-loop-node
invariant-loop-node l = (n : ℕ) → n < l.node →
    (has l.seen n ≡ true) ⊎ (has (cut_at l.cuts l.right) n ≡ true)
