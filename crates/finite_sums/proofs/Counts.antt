-- Counts of indices that pass a test.
use Rattle.std.proofs.Common.{◌≡◌, ℕ, zero, suc, ◌+◌, ◌<◌, ◌≤◌, Bool, true, false, refl, ◌∙◌, ap, arith, inl, inr}
use Rattle.std.proofs.lemmas.Bool.{cases_lt, cases_Bool}
use Rattle.std.proofs.lemmas.Bool.Decides.{nat_tests}
use Rattle.std.specs.Prelude.{◌==◌, nat_lt, if◌then◌else◌, ◌⊎◌}
use Rattle.finite_sums.specs.Sums.{total, count_where}
use Rattle.finite_sums.proofs.Totals.{total_same, total_add, total_at, total_le, total_where_none}

-- a sum of ones
pub total_ones : (n : ℕ) → total n (λ k. 1) ≡ n
unfolding total
total_ones zero = refl
total_ones (suc n) = omega (arith, total_ones n)

-- an index below a bound
pub at_inside : (k n x : ℕ) → k < n → (if nat_lt k n then x else 0) ≡ x
at_inside k n x l = grind (arith, nat_tests)

-- where an index does not pass, fewer pass than there are
pub fewer : (n : ℕ) (p : ℕ → Bool) (k : ℕ) → k < n → p k ≡ false → count_where n p + 1 ≤ n
fewer n p k l h =
    omega (
      arith,
      total_ones n,
      total_add n (λ v. if p v then 1 else 0) (λ v. if k == v then 1 else 0),
      total_at n k 1,
      at_inside k n 1 l,
      total_le n (λ v. (if p v then 1 else 0) + (if k == v then 1 else 0)) (λ v. 1) (λ v m. at_most p k v h),
    )
  where
    at_most : (p : ℕ → Bool) (k v : ℕ) → p k ≡ false → (if p v then 1 else 0) + (if k == v then 1 else 0) ≤ 1
    at_most p k v h = grind (arith, nat_tests)

-- all indices pass, or one does not
pub all_or_one : (n : ℕ) (p : ℕ → Bool) → ((k : ℕ) → k < n → p k ≡ true) ⊎ ((k : ℕ) × ((k < n) × (p k ≡ false)))
all_or_one zero p = inl (λ k l. absurd (omega arith))
all_or_one (suc n) p = elim (all_or_one n p) [
  | inr one ↦ inr (one.0, (let l = one.1.0 in omega arith, one.1.1))
  | inl all ↦ elim (cases_Bool (p n)) [
    | inl here ↦ inl (λ k l. elim (cases_lt k n) [
      | inl below ↦ all k below
      | inr above ↦ (let e : k ≡ n = omega arith in ap p e ∙ here)
    ])
    | inr fails ↦ inr (n, (omega arith, fails))
  ]
]

-- where all indices pass, all are counted
pub all_counted : (n : ℕ) (p : ℕ → Bool) → ((k : ℕ) → k < n → p k ≡ true) → count_where n p ≡ n
all_counted n p h = total_same n (λ k. if p k then 1 else 0) (λ k. 1) (λ k l. ap (λ t. if t then 1 else 0) (h k l))
    ∙ total_ones n

-- where none is counted, none passes
pub none_passes : (n : ℕ) (p : ℕ → Bool) → count_where n p ≡ 0 → (k : ℕ) → k < n → p k ≡ false
none_passes n p none k l = elim (cases_Bool (p k)) [
  | inl passes ↦ absurd (not_one (total_where_none n p (λ i. 1) none k l passes))
  | inr fails ↦ fails
]
  where
    not_one : ◌≡◌ {A = ℕ} 1 0 → ⊥
    not_one h = omega arith
