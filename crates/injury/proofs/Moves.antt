-- Indices from an inserted one on move by one: what that does to lists and sums.
use Rattle.std.proofs.Common.{◌≡◌, ℕ, zero, suc, ◌+◌, ◌<◌, ◌≤◌, Bool, true, false, refl, sym, ◌∙◌, ap, arith, List}
use Rattle.std.proofs.Common.{[], ◌∷◌, length, inl, inr}
use Rattle.std.proofs.lemmas.Bool.{cases_lt, cases_order}
use Rattle.std.proofs.lemmas.Bool.Decides.{nat_tests}
use Rattle.std.proofs.lemmas.List.Edits.{length-insert}
use Rattle.std.specs.Prelude.{if◌then◌else◌, insert, slice_get, Some, ◌≢◌}
use Rattle.finite_sums.specs.Sums.{total, total_where}
use Rattle.finite_sums.proofs.Totals.{total_same}
use Rattle.injury.specs.OneMore.{moved}

pub moved_below : (at r : ℕ) → r < at → moved at r ≡ r
unfolding moved
moved_below at r l = grind (arith, nat_tests)

pub moved_after : (at r : ℕ) → at ≤ r → moved at r ≡ suc r
unfolding moved
moved_after at r l = grind (arith, nat_tests)

moved_suc : (at r : ℕ) → moved (suc at) (suc r) ≡ suc (moved at r)
moved_suc at r = elim (cases_lt r at) [
  | inl below ↦ moved_below (suc at) (suc r) (omega arith) ∙ ap suc (sym (moved_below at r below))
  | inr after ↦ moved_after (suc at) (suc r) (omega arith) ∙ ap suc (sym (moved_after at r after))
]

pub moved_within : (at r n : ℕ) → r < n → moved at r < suc n
moved_within at r n l = elim (cases_lt r at) [
  | inl below ↦ omega (arith, moved_below at r below)
  | inr after ↦ omega (arith, moved_after at r after)
]

-- each index but the inserted one is that of an old one
pub record IsMoved (at n s : ℕ) : Type 0 where
  pub position : ℕ
  pub within : position < n
  pub moves : s ≡ moved at position

pub old_place : (at n s : ℕ) → at ≤ n → s < suc n → s ≢ at → IsMoved at n s
old_place at n s le l apart = elim (cases_order s at) [
  | inl same ↦ absurd (apart same)
  | inr o ↦ elim o [
    | inl below ↦ record { position = s; within = omega arith; moves = sym (moved_below at s below) }
    | inr above ↦ after s above l
  ]
]
  where
    after : (s : ℕ) → at < s → s < suc n → IsMoved at n s
    after zero a l = absurd (omega arith)
    after (suc k) a l = record { position = k; within = omega arith; moves = sym (moved_after at k (omega arith)) }

-- the entries of a list beside an inserted one
pub entry_at_moved : {X : Type 0} (xs : List X) (at : ℕ) (x : X) (r : ℕ) → at ≤ length xs →
    slice_get (insert xs at x) (moved at r) ≡ slice_get xs r
entry_at_moved xs zero x r l = ap (slice_get (x ∷ xs)) (moved_after 0 r (omega arith))
entry_at_moved [] (suc at) x r l = absurd (omega arith)
entry_at_moved (y ∷ ys) (suc at) x zero l = ap (slice_get (y ∷ insert ys at x)) (moved_below (suc at) 0 (omega arith))
entry_at_moved (y ∷ ys) (suc at) x (suc r) l =
    ap (slice_get (y ∷ insert ys at x)) (moved_suc at r) ∙ entry_at_moved ys at x r (omega arith)

pub entry_at_new : {X : Type 0} (xs : List X) (at : ℕ) (x : X) → at ≤ length xs → slice_get (insert xs at x) at ≡ Some x
entry_at_new xs zero x l = refl
entry_at_new [] (suc at) x l = absurd (omega arith)
entry_at_new (y ∷ ys) (suc at) x l = entry_at_new ys at x (omega arith)

pub one_longer : {X : Type 0} (xs : List X) (at : ℕ) (x : X) → at ≤ length xs →
    length (insert xs at x) ≡ suc (length xs)
one_longer xs at x l = omega (arith, length-insert xs at x l)

-- a sum over all indices is that over the old ones and the new term
total_moved : (n at : ℕ) (f : ℕ → ℕ) → at ≤ n → total (suc n) f ≡ total n (λ r. f (moved at r)) + f at
unfolding total
total_moved zero at f l = let e : f at ≡ f 0 = ap f (omega arith) in omega arith
total_moved (suc n) at f l = elim (cases_lt n at) [
  | inl last ↦ (let e : f at ≡ f (suc n) = ap f (omega arith) in
      omega (arith, total_same (suc n) (λ r. f (moved at r)) f (λ r k. ap f (moved_below at r (omega arith)))))
  | inr before ↦ (let e : f (moved at n) ≡ f (suc n) = ap f (moved_after at n before) in
      omega (arith, total_moved n at f before))
]

-- a sum over indices that pass, and nothing at the new one
pub total_where_moved : (m n at : ℕ) (p q : ℕ → Bool) (f g : ℕ → ℕ) → m ≡ suc n → at ≤ n →
    (q at ≡ true → g at ≡ 0) →
    ((r : ℕ) → r < n → q (moved at r) ≡ p r) →
    ((r : ℕ) → r < n → p r ≡ true → g (moved at r) ≡ f r) →
    total_where m q g ≡ total_where n p f
total_where_moved m n at p q f g len l none tests terms =
    ap (λ k. total_where k q g) len
    ∙ omega (
      arith,
      total_moved n at (λ s. if q s then g s else 0) l,
      nothing (q at) (g at) none,
      total_same n (λ r. if q (moved at r) then g (moved at r) else 0) (λ r. if p r then f r else 0)
          (λ r k. term (p r) (q (moved at r)) (f r) (g (moved at r)) (tests r k) (terms r k)),
    )
  where
    nothing : (t : Bool) (x : ℕ) → (t ≡ true → x ≡ 0) → (if t then x else 0) ≡ 0
    nothing true x h = h refl
    nothing false x h = refl

    term : (p q : Bool) (x y : ℕ) → q ≡ p → (p ≡ true → y ≡ x) → (if q then y else 0) ≡ (if p then x else 0)
    term true q x y e h = rw e (h refl)
    term false q x y e h = rw e refl
