-- The first index that passes a test.
use Rattle.std.proofs.Common.{◌≡◌, ℕ, zero, suc, ◌+◌, ◌<◌, ◌≤◌, Bool, true, false, refl, sym, ◌∙◌, ap, arith, inl, inr}
use Rattle.std.proofs.Common.{cond}
use Rattle.std.proofs.lemmas.Bool.{cases_eq, cases_Bool}
use Rattle.std.specs.Prelude.{Some, None}
use Rattle.std.specs.List.{find, range_with_len}

-- the first index that passes is found
pub find_first : (p : ℕ → Bool) (from n k : ℕ) → from ≤ k → k < from + n → p k ≡ true →
    ((j : ℕ) → from ≤ j → j < k → p j ≡ false) →
    find p (range_with_len from n) ≡ Some k
find_first p from zero k a b passes before = absurd (omega arith)
find_first p from (suc n) k a b passes before = elim (cases_eq from k) [
  | inl here ↦ ap (λ t. cond t (Some from) (find p (range_with_len (from + 1) n))) (ap p here ∙ passes) ∙ ap Some here
  | inr later ↦
      ap (λ t. cond t (Some from) (find p (range_with_len (from + 1) n))) (before from (omega arith) (omega arith))
      ∙ find_first p (from + 1) n k (omega arith) (omega arith) passes (λ j c d. before j (omega arith) d)
]

-- where none passes, none is found
pub find_none : (p : ℕ → Bool) (from n : ℕ) → ((j : ℕ) → from ≤ j → j < from + n → p j ≡ false) →
    find p (range_with_len from n) ≡ None
find_none p from zero none = refl
find_none p from (suc n) none =
    ap (λ t. cond t (Some from) (find p (range_with_len (from + 1) n))) (none from (omega arith) (omega arith))
    ∙ find_none p (from + 1) n (λ j c d. none j (omega arith) (omega arith))

-- where none is found, none passes
pub none_found : (p : ℕ → Bool) (from n : ℕ) → find p (range_with_len from n) ≡ None → (j : ℕ) → from ≤ j →
    j < from + n → p j ≡ false
none_found p from zero none j a b = absurd (omega arith)
none_found p from (suc n) none j a b = elim (cases_Bool (p from)) [
  | inl passes ↦
      absurd (cc (sym (ap (λ t. cond t (Some from) (find p (range_with_len (from + 1) n))) passes) ∙ none))
  | inr fails ↦ elim (cases_eq j from) [
    | inl here ↦ ap p here ∙ fails
    | inr later ↦
        none_found p (from + 1) n (sym (ap (λ t. cond t (Some from) (find p (range_with_len (from + 1) n))) fails)
        ∙ none) j (omega arith) (omega arith)
  ]
]
