-- How an amount is dealt out by weights.
use Rattle.std.specs.Prelude.{ℕ, zero, suc, ◌+◌, ◌-◌, ◌*◌, ◌/◌, ◌==◌, if◌then◌else◌}
use Rattle.finite_sums.specs.Sums.{total}

-- The part of an amount for one of several weights, where `before` is the sum of those before it and `all` that of all:
-- what falls to the weights up to this one, in whole units, less what falls to those before it. It is 0 where all
-- weights are 0.
abbrev pub part : ℕ → ℕ → ℕ → ℕ → ℕ
part amount before weight all =
    if all == 0 then 0 else amount * (before + weight) / all - amount * before / all

-- the part for the weight with index i, of n weights
abbrev pub share : ℕ → ℕ → (ℕ → ℕ) → ℕ → ℕ
share n amount weight i = part amount (total i weight) (weight i) (total n weight)

-- weights with one more before the first
abbrev pub with_first : ℕ → (ℕ → ℕ) → ℕ → ℕ
with_first first weight zero = first
with_first first weight (suc k) = weight k
