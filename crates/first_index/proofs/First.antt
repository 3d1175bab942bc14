-- The index of the first entry of a list that passes a test.
use Rattle.std.proofs.Common.{◌≡◌, ℕ, suc, ◌+◌, ◌<◌, Bool, true, false, refl, ap, ◌∙◌, arith, List, [], ◌∷◌, ◌++◌}
use Rattle.std.proofs.Common.{length, take, slice_get, position, Some, None, if◌then◌else◌, inl, inr}
use Rattle.std.proofs.Common.{zero-add, add-zero}
use Rattle.std.specs.Prelude.{cond, nat_lt, not}
use Rattle.std.specs.List.{position_or_len}
use Rattle.std.specs.Option.{option_or}
use Rattle.std.proofs.lemmas.Bool.{cases_Bool}
use Rattle.std.proofs.lemmas.Bool.Decides.{nat_tests}
use Rattle.std.proofs.lemmas.List.{take_more, length-take}
use Rattle.std.proofs.lemmas.Option.{slice_get_within, get_or_from_slice_get}
use Rattle.first_index.specs.Indices.{first_from}

first_from_is : {X : Type 0} (p : X → Bool) (index : ℕ) (xs : List X) →
    first_from p index xs ≡ cond (nat_lt (position_or_len p xs) (length xs)) (Some (index + position_or_len p xs)) None
first_from_is p index [] = refl
first_from_is {X} p index (x ∷ xs) = by_test (p x) (first_from_is p (index + 1) xs)
  where
    later : (k count : ℕ) →
        cond (nat_lt k count) (Some (index + 1 + k)) None ≡ cond (nat_lt (1 + k) (suc count)) (Some (index + (1 + k)))
        None
    later k count = grind (arith, nat_tests)

    by_test : (t : Bool) →
        first_from p (index + 1) xs ≡ cond (nat_lt (position_or_len p xs) (length xs))
        (Some (index + 1 + position_or_len p xs)) None →
        (if t then Some index else first_from p (index + 1) xs)
        ≡ cond (nat_lt (if not t then 1 + position_or_len p xs else 0) (suc (length xs)))
        (Some (index + (if not t then 1 + position_or_len p xs else 0))) None
    by_test true h = grind (arith, nat_tests)
    by_test false h = h ∙ later (position_or_len p xs) (length xs)

pub first_is_position : {X : Type 0} (p : X → Bool) (xs : List X) → first_from p 0 xs ≡ position p xs
first_is_position p xs = rw (first_from_is p 0 xs, zero-add) refl

-- in one list and then another
pub first_from-append : {X : Type 0} (p : X → Bool) (n : ℕ) (xs ys : List X) →
    first_from p n (xs ++ ys) ≡ option_or (first_from p n xs) (first_from p (n + length xs) ys)
first_from-append p n [] ys = rw add-zero refl
first_from-append p n (x ∷ xs) ys =
    elim (cases_Bool (p x)) [
      | inl here ↦ rw here refl
      | inr other ↦
          rw other (first_from-append p (n + 1) xs ys
          ∙ ap (λ m. option_or (first_from p (n + 1) xs) (first_from p m ys)) (omega arith))
    ]

-- and among one entry more
pub first_more : {X : Type 0} (p : X → Bool) (n : ℕ) (xs : List X) (i : ℕ) (x : X) → slice_get xs i ≡ Some x →
    first_from p n (take (i + 1) xs) ≡ option_or (first_from p n (take i xs)) (if p x then Some (n + i) else None)
first_more p n xs i x at =
    ap (first_from p n)
    (take_more xs i x within ∙ ap (λ y. take i xs ++ y ∷ []) (get_or_from_slice_get xs i x x at))
    ∙ (first_from-append p n (take i xs) (x ∷ [])
    ∙ ap (λ m. option_or (first_from p n (take i xs)) (if p x then Some m else None)) index)
  where
    within : i < length xs
    within = slice_get_within xs i x at

    index : n + length (take i xs) ≡ n + i
    index = omega (arith, length-take i xs, within)
