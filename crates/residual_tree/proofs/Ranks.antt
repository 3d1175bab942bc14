-- Ranks as small numbers: one more than how many nodes have a lesser rank.
use Rattle.std.proofs.Common.{ℕ, zero, suc, Bool, nat_lt, ◌≡◌, ◌+◌, ◌<◌, ◌≤◌, if◌then◌else◌, arith, ap, inl, inr}
use Rattle.std.proofs.lemmas.Bool.{cases_eq, lt-ltb, le-ltb}
use Rattle.std.proofs.lemmas.Bool.Decides.{nat_tests}
use Rattle.finite_sums.specs.Sums.{total}
use Rattle.finite_sums.proofs.Counts.{total_ones}
use Rattle.finite_sums.proofs.Totals.{total_le}

-- sums of terms in order, of which one is less
total_lt : (n a : ℕ) (f g : ℕ → ℕ) → a < n → ((k : ℕ) → f k ≤ g k) → f a + 1 ≤ g a → total n f + 1 ≤ total n g
unfolding total
total_lt zero a f g b h less = absurd (omega arith)
total_lt (suc n) a f g b h less = elim (cases_eq a n) [
  | inl e ↦ omega (arith, total_le n f g (λ k c. h k), ap f e, ap g e, less)
  | inr ne ↦ omega (arith, total_lt n a f g (omega arith) h less, h n)
]

-- 1 where the rank of a node is less
counted : ℕ → ℕ → ℕ
counted x y = if nat_lt x y then 1 else 0

counted_less : (x y : ℕ) → x < y → counted x y ≡ 1
unfolding counted
counted_less x y b = ap (λ (t : Bool). if t then 1 else 0) (lt-ltb x y b)

counted_not : (x y : ℕ) → y ≤ x → counted x y ≡ 0
unfolding counted
counted_not x y b = ap (λ (t : Bool). if t then 1 else 0) (le-ltb x y b)

counted_one : (x y : ℕ) → counted x y ≤ 1
unfolding counted
counted_one x y = grind (arith, nat_tests)

counted_more : (x y z : ℕ) → y ≤ z → counted x y ≤ counted x z
unfolding counted
counted_more x y z b = grind (arith, nat_tests)

-- one more than how many nodes have a lesser rank
pub place_of : ℕ → (ℕ → ℕ) → ℕ → ℕ
place_of nodes rank v = total (nodes + 1) (λ u. counted (rank u) (rank v)) + 1

pub place_positive : (nodes : ℕ) (rank : ℕ → ℕ) (v : ℕ) → 0 < place_of nodes rank v
unfolding place_of
place_positive nodes rank v = omega arith

pub place_most : (nodes : ℕ) (rank : ℕ → ℕ) (v : ℕ) → v ≤ nodes → place_of nodes rank v ≤ nodes + 1
unfolding place_of
place_most nodes rank v b =
    let less = total_lt (nodes + 1) v (λ u. counted (rank u) (rank v)) (λ u. 1) (omega arith)
    (λ u. counted_one (rank u) (rank v)) (omega (arith, counted_not (rank v) (rank v) (omega arith))) in
    omega (arith, less, total_ones (nodes + 1))

pub place_falls : (nodes : ℕ) (rank : ℕ → ℕ) (u v : ℕ) → u ≤ nodes → rank u < rank v →
    place_of nodes rank u < place_of nodes rank v
unfolding place_of
place_falls nodes rank u v b less =
    let more = total_lt (nodes + 1) u (λ x. counted (rank x) (rank u)) (λ x. counted (rank x) (rank v)) (omega arith)
    (λ x. counted_more (rank x) (rank u) (rank v) (omega arith))
    (omega (arith, counted_not (rank u) (rank u) (omega arith), counted_less (rank u) (rank v) less)) in
    omega (arith, more)
