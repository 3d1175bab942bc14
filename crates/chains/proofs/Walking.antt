-- Along a chain, from one index to the next.
use Rattle.std.proofs.Common.{◌≡◌, ◌∙◌, ℕ, ◌+◌, ◌-◌, ◌<◌, ◌≤◌, Bool, true, false, sym, ap, arith}
use Rattle.std.proofs.lemmas.Bool.{eq-eqb, eqb-true}
use Rattle.std.proofs.lemmas.Bool.Decides.{nat_tests}
use Rattle.std.specs.Prelude.{Option, Some, None, IfSome, nat_lt, unwrap_or, ◌==◌}
use Rattle.chains.specs.Chains.{IsFirst, is_before, is_key}

-- the key of an index that has one
pub key_is : (o : Option ℕ) (key : ℕ) → is_key o key ≡ true → o ≡ Some key
key_is None key h = cc
key_is (Some own) key h = ap Some (eqb-true own key h)

-- what a next index says of itself
pub next_has : (f : ℕ → ℕ) (v from count : ℕ) (next : Option ℕ) → IsFirst (λ s. f s == v) from count next →
    IfSome next (λ s. (s < count) × (f s ≡ v))
next_has f v from count None first = tt
next_has f v from count (Some s) first = (first.1, eqb-true (f s) v first.2)

-- of the indices with a key, those from one on are those from the next one on
pub splits : (f : ℕ → ℕ) (v from count : ℕ) (next : Option ℕ) → IsFirst (λ s. f s == v) from count next →
    (s : ℕ) → s < count → f s ≡ v → is_before next s ≡ nat_lt s from
splits f v from count None first s l at =
    below s from (λ more. let no = first s more l in let yes = eq-eqb (f s) v at in cc)
  where
    below : (s from : ℕ) → (from ≤ s → ⊥) → true ≡ nat_lt s from
    below s from h = grind (arith, nat_tests)
splits f v from count (Some e) first s l at =
    between s from e first.0 (λ more less. let no = first.3 s more less in let yes = eq-eqb (f s) v at in cc)
  where
    between : (s from e : ℕ) → from ≤ e → (from ≤ s → s < e → ⊥) → nat_lt s e ≡ nat_lt s from
    between s from e le h = grind (arith, nat_tests)

-- there are fewer and fewer indices left
pub fewer_left : (test : ℕ → Bool) (count at : ℕ) (next : Option ℕ) → at < count → IsFirst test (at + 1) count next →
    count - unwrap_or next count < count - at
fewer_left test count at None below further = omega arith
fewer_left test count at (Some further) below next = let after = next.0 in let l = next.1 in omega arith
