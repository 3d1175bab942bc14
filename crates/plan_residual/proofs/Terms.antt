-- The complement of a set.
use Rattle.std.proofs.Common.{◌≡◌, ℕ, zero, suc, ◌<◌, Bool, refl, ap, arith, List, [], ◌∷◌, length}
use Rattle.std.specs.Prelude.{not}
use Rattle.water_model.specs.Lookups.{has}
use Rattle.plan_residual.specs.Slack.{others}

-- a node is in the complement exactly where it is not in the set
pub has_others : (set : List Bool) (n : ℕ) → n < length set → has (others set) n ≡ not (has set n)
has_others [] n l = absurd (omega arith)
has_others (x ∷ set) zero l = refl
has_others (x ∷ set) (suc n) l = has_others set n (omega arith)

pub length-others : (set : List Bool) → length (others set) ≡ length set
length-others [] = refl
length-others (x ∷ set) = ap suc (length-others set)
