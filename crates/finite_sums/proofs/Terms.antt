-- The terms of sums and of greatest values.
use Rattle.std.proofs.Common.{◌≡◌, ℕ, zero, suc, ◌<◌, ◌≤◌, Bool, true, false, refl, sym, ap, subst, arith, inl, inr}
use Rattle.std.proofs.lemmas.Bool.{cases_lt}
use Rattle.std.specs.Prelude.{if◌then◌else◌, max, ◌⊎◌}
use Rattle.finite_sums.specs.Sums.{total, total_where, greatest_where}
use Rattle.finite_sums.proofs.Totals.{total_le, total_same, total_zero}

-- where no term of one sum is above that of another, and the sums are not in that order, the terms are equal
terms_equal : (n : ℕ) (f g : ℕ → ℕ) → ((k : ℕ) → k < n → f k ≤ g k) → total n g ≤ total n f →
    (k : ℕ) → k < n → f k ≡ g k
unfolding total
terms_equal zero f g le all k l = absurd (omega arith)
terms_equal (suc n) f g le all k l =
    let last = le n (omega arith) in
    let rest = total_le n f g (λ j c. le j (omega arith)) in
    elim (at_or_below k n l) [
      | inl here ↦ (let e : f n ≡ g n = omega arith in subst (λ j. f j ≡ g j) (sym here) e)
      | inr below ↦ terms_equal n f g (λ j c. le j (omega arith)) (omega arith) k below
    ]
  where
    at_or_below : (k n : ℕ) → k < suc n → (k ≡ n) ⊎ (k < n)
    at_or_below k n l = grind arith

-- the same of the terms that pass a test
pub terms_equal_where : (n : ℕ) (p : ℕ → Bool) (f g : ℕ → ℕ) → ((k : ℕ) → k < n → p k ≡ true → f k ≤ g k) →
    total_where n p g ≤ total_where n p f → (k : ℕ) → k < n → p k ≡ true → f k ≡ g k
terms_equal_where n p f g le all k l passes =
    unmask (p k) (f k) (g k) passes
    (terms_equal n (λ j. if p j then f j else 0) (λ j. if p j then g j else 0)
    (λ j c. masked (p j) (f j) (g j) (le j c)) all k l)
  where
    masked : (t : Bool) (x y : ℕ) → (t ≡ true → x ≤ y) → (if t then x else 0) ≤ (if t then y else 0)
    masked true x y h = h refl
    masked false x y h = omega arith

    unmask : (t : Bool) (x y : ℕ) → t ≡ true → (if t then x else 0) ≡ (if t then y else 0) → x ≡ y
    unmask true x y h e = e
    unmask false x y h e = cc

-- sums whose terms are equal where the test holds
pub same_where : (n : ℕ) (p : ℕ → Bool) (f g : ℕ → ℕ) → ((k : ℕ) → k < n → p k ≡ true → f k ≡ g k) →
    total_where n p f ≡ total_where n p g
same_where n p f g same =
    total_same n (λ k. if p k then f k else 0) (λ k. if p k then g k else 0)
    (λ k l. masked (p k) (f k) (g k) (same k l))
  where
    masked : (t : Bool) (x y : ℕ) → (t ≡ true → x ≡ y) → (if t then x else 0) ≡ (if t then y else 0)
    masked true x y h = h refl
    masked false x y h = refl

-- a sum whose terms are 0 where the test holds
pub none_where : (n : ℕ) (p : ℕ → Bool) (f : ℕ → ℕ) → ((k : ℕ) → k < n → p k ≡ true → f k ≡ 0) → total_where n p f ≡ 0
none_where n p f none =
    total_zero n (λ k. if p k then f k else 0) (λ k l. masked (p k) (f k) (none k l))
  where
    masked : (t : Bool) (x : ℕ) → (t ≡ true → x ≡ 0) → (if t then x else 0) ≡ 0
    masked true x h = h refl
    masked false x h = refl

-- the greatest of some amounts is one of them, unless it is 0
pub greatest_is : (n : ℕ) (p : ℕ → Bool) (f : ℕ → ℕ) → 0 < greatest_where n p f →
    (k : ℕ) × (k < n) × (p k ≡ true) × (f k ≡ greatest_where n p f)
unfolding greatest_where
greatest_is zero p f some = absurd (omega arith)
greatest_is (suc n) p f some =
    by_test (p n) refl (greatest_is n p f) (cases_lt (greatest_where n p f) (if p n then f n else 0))
  where
    by_test : (t : Bool) → p n ≡ t →
        (0 < greatest_where n p f → (k : ℕ) × (k < n) × (p k ≡ true) × (f k ≡ greatest_where n p f)) →
        (greatest_where n p f < (if p n then f n else 0)) ⊎ ((if p n then f n else 0) ≤ greatest_where n p f) →
        (k : ℕ) × (k < suc n) × (p k ≡ true) × (f k ≡ max (greatest_where n p f) (if p n then f n else 0))
    by_test true e before (inl less) =
        (let v : (if p n then f n else 0) ≡ f n = ap (λ t. if t then f n else 0) e in (n, omega arith, e, omega arith))
    by_test false e before (inl less) =
        (let v : (if p n then f n else 0) ≡ 0 = ap (λ t. if t then f n else 0) e in absurd (omega arith))
    by_test t e before (inr more) = (let r = before (omega arith) in let b = r.1 in let same = r.3 in
        (r.0, omega arith, r.2, omega arith))
