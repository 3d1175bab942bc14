-- Reads after writes and after additions.
use Rattle.std.proofs.Common.{◌≡◌, ℕ, zero, suc, ◌+◌, ◌<◌, refl, sym, ◌∙◌, ap, arith, List, [], ◌∷◌, ◌++◌, length}
use Rattle.std.proofs.Common.{inl, inr}
use Rattle.std.specs.Prelude.{slice_index, slice_get, Some}
use Rattle.std.proofs.lemmas.Bool.{cases_lt}
use Rattle.std.proofs.lemmas.Grind.{common_steps}

pub get_last : {X : Type 0} (xs : List X) (k : ℕ) (x : X) → k ≡ length xs → slice_get (xs ++ x ∷ []) k ≡ Some x
get_last [] zero x h = refl
get_last [] (suc k) x h = absurd (omega arith)
get_last (y ∷ xs) zero x h = absurd (omega arith)
get_last (y ∷ xs) (suc k) x h = get_last xs k x (omega arith)

pub get_before : {X : Type 0} (xs : List X) (y : X) (k : ℕ) → k < length xs →
    slice_get (xs ++ y ∷ []) k ≡ slice_get xs k
get_before [] y k l = absurd (omega arith)
get_before (x ∷ xs) y zero l = refl
get_before (x ∷ xs) y (suc k) l = get_before xs y k (omega arith)

-- one more number of a list that is known index by index
pub pushed_each : (f : ℕ → ℕ) (xs ys : List ℕ) (n y : ℕ) → ys ≡ xs ++ y ∷ [] → length xs ≡ n →
    ((k : ℕ) → k < n → slice_index xs k ≡ f k) → y ≡ f n → (k : ℕ) → k < n + 1 → slice_index ys k ≡ f k
pushed_each f xs ys n y is len each here k l = elim (cases_lt k n) [
  | inl below ↦ ap (λ (zs : List ℕ). slice_index zs k) is ∙ before xs y k (omega arith) ∙ each k below
  | inr above ↦ (let e : k ≡ n = omega arith in ap (λ (zs : List ℕ). slice_index zs k) is ∙ last xs y k (omega arith)
      ∙ here ∙ sym (ap f e))
]
  where
    before : (xs : List ℕ) (y k : ℕ) → k < length xs → slice_index (xs ++ y ∷ []) k ≡ slice_index xs k
    before xs y k l = grind (arith, common_steps)

    last : (xs : List ℕ) (y k : ℕ) → k ≡ length xs → slice_index (xs ++ y ∷ []) k ≡ y
    last xs y k e = grind (arith, common_steps)

pub pushed_count : {X : Type 0} (xs ys : List X) (y : X) (n : ℕ) → ys ≡ xs ++ y ∷ [] → length xs ≡ n → length ys ≡ n + 1
pushed_count xs ys y n is len = ap length is ∙ grind (arith, common_steps)

-- one more entry of a list that is known index by index
pub pushed_gets : {X : Type 0} (f : ℕ → X) (xs ys : List X) (n : ℕ) (y : X) → ys ≡ xs ++ y ∷ [] → length xs ≡ n →
    ((k : ℕ) → k < n → slice_get xs k ≡ Some (f k)) → y ≡ f n → (k : ℕ) → k < n + 1 → slice_get ys k ≡ Some (f k)
pushed_gets f xs ys n y is len each here k l = elim (cases_lt k n) [
  | inl below ↦ ap (λ (zs : List _). slice_get zs k) is ∙ get_before xs y k (omega (arith, below, len)) ∙ each k below
  | inr above ↦ (let e : k ≡ n = omega (arith, above, l) in
      ap (λ (zs : List _). slice_get zs k) is ∙ get_last xs k y (e ∙ sym len) ∙ ap Some (here ∙ sym (ap f e)))
]
