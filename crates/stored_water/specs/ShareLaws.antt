-- Laws over shares.
use Rattle.std.specs.Prelude.{◌≡◌, ℕ, ◌+◌, ◌*◌, ◌<◌, ◌≤◌}
use Rattle.finite_sums.specs.Sums.{total}
use Rattle.water_model.specs.Shares.{share}

-- Shares sum up. The parts of an amount sum to it, unless all weights are 0.
abbrev pub SharesSumUp : Type 0
SharesSumUp =
    (n amount : ℕ) (weight : ℕ → ℕ) → 0 < total n weight → total n (λ i. share n amount weight i) ≡ amount

-- Shares fit. Of an amount that is at most the sum of the weights, no part is above its weight.
abbrev pub SharesFit : Type 0
SharesFit =
    (n amount : ℕ) (weight : ℕ → ℕ) (i : ℕ) → amount ≤ total n weight → share n amount weight i ≤ weight i

-- a part is less than one unit away from its exact proportion of the amount
pub record IsInProportion (part amount weight all : ℕ) : Type 0 where
  pub not_below : amount * weight < (part + 1) * all
  pub not_above : part * all < amount * weight + all

-- Shares are in proportion. So the order of the weights moves each part by less than two units.
abbrev pub SharesAreInProportion : Type 0
SharesAreInProportion =
    (n amount : ℕ) (weight : ℕ → ℕ) (i : ℕ) → 0 < total n weight →
    IsInProportion (share n amount weight i) amount (weight i) (total n weight)

-- The sum of the parts is the same for all weights with one sum, and so for the same weights in another order.
abbrev pub OrderChangesNoSum : Type 0
OrderChangesNoSum =
    (n amount : ℕ) (weight other : ℕ → ℕ) → total n weight ≡ total n other →
    total n (λ i. share n amount weight i) ≡ total n (λ i. share n amount other i)
