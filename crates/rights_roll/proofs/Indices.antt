-- The first index at which a list of keys has a key.
use Rattle.std.proofs.Common.{◌≡◌, ℕ, zero, suc, ◌+◌, ◌<◌, ◌≤◌, Bool, true, false, cond, List, [], ◌∷◌, ◌++◌, length}
use Rattle.std.proofs.Common.{take, get_or, Some, None, refl, sym, ap, ◌∙◌, arith, add-zero, inl, inr}
use Rattle.std.proofs.lemmas.Iterator.Adapters.{position_from-zero}
use Rattle.std.proofs.lemmas.List.{get_or-take, length-take-le}
use Rattle.std.proofs.lemmas.List.Quantifiers.{position-Some}
use Rattle.std.proofs.lemmas.List.Sums.{position_or_len_is}
use Rattle.std.proofs.lemmas.Slice.Eq.{bytes_eq-Decides}
use Rattle.std.specs.List.{position, position_from, position_or_len}
use Rattle.std.specs.Option.{option_or}
use Rattle.std.specs.Str.{bytes_eq}
use Rattle.std.proofs.lemmas.Bool.{cases_Bool}
use Rattle.water_text.proofs.Splits.{none_passes}

pub same_bytes : (xs ys : List ℕ) → xs ≡ ys → bytes_eq xs ys ≡ true
same_bytes xs ys e = (bytes_eq-Decides xs ys).1 e

pub bytes_same : (xs ys : List ℕ) → bytes_eq xs ys ≡ true → xs ≡ ys
bytes_same xs ys h = (bytes_eq-Decides xs ys).0 h

from-append : {X : Type 0} (p : X → Bool) (n : ℕ) (xs : List X) (x : X) →
    position_from p n (xs ++ x ∷ []) ≡ option_or (position_from p n xs) (cond (p x) (Some (n + length xs)) None)
from-append p n [] x = ap (λ k. cond (p x) (Some k) None) (sym (add-zero n))
from-append p n (y ∷ ys) x = by_test (p y) (from-append p (n + 1) ys x)
  where
    by_test : (t : Bool) → position_from p (n + 1) (ys ++ x ∷ []) ≡ option_or (position_from p (n + 1) ys)
        (cond (p x) (Some (n + 1 + length ys)) None) →
        cond t (Some n) (position_from p (n + 1) (ys ++ x ∷ [])) ≡ option_or
        (cond t (Some n) (position_from p (n + 1) ys)) (cond (p x) (Some (n + suc (length ys))) None)
    by_test true further = refl
    by_test false further =
        let count : n + 1 + length ys ≡ n + suc (length ys) = omega arith in
        further ∙ ap (λ k. option_or (position_from p (n + 1) ys) (cond (p x) (Some k) None)) count

-- one more element
pub position-append : {X : Type 0} (p : X → Bool) (xs : List X) (x : X) →
    position p (xs ++ x ∷ []) ≡ option_or (position p xs) (cond (p x) (Some (length xs)) None)
position-append p xs x =
    let count : 0 + length xs ≡ length xs = omega arith in
    position_from-zero p (xs ++ x ∷ []) ∙ (from-append p 0 xs x
    ∙ (ap (λ k. option_or (position_from p 0 xs) (cond (p x) (Some k) None)) count
    ∙ ap (λ o. option_or o (cond (p x) (Some (length xs)) None)) (sym (position_from-zero p xs))))

-- the first index is at most each index that passes, and at least each one below which all fail
pub position_or_len-at_most : {X : Type 0} (p : X → Bool) (xs : List X) (k : ℕ) (d : X) → k < length xs →
    p (get_or xs k d) ≡ true → position_or_len p xs ≤ k
position_or_len-at_most p [] k d h e = absurd (omega arith)
position_or_len-at_most p (x ∷ xs) zero d h e = rw e (omega arith)
position_or_len-at_most p (x ∷ xs) (suc k) d h e =
    let further = position_or_len-at_most p xs k d (omega arith) e in elim (cases_Bool (p x)) [
      | inl passes ↦ rw passes (omega arith)
      | inr fails ↦ rw fails (omega arith)
    ]

pub position_or_len-at_least : {X : Type 0} (p : X → Bool) (xs : List X) (k : ℕ) (d : X) → k ≤ length xs →
    ((j : ℕ) → j < k → p (get_or xs j d) ≡ false) → k ≤ position_or_len p xs
position_or_len-at_least p [] k d h all = omega arith
position_or_len-at_least p (x ∷ xs) zero d h all = omega arith
position_or_len-at_least p (x ∷ xs) (suc k) d h all =
    let first : p x ≡ false = all 0 (omega arith) in
    let further : k ≤ position_or_len p xs =
    position_or_len-at_least p xs k d (omega arith) (λ j l. all (suc j) (omega arith)) in
    rw first (omega arith)

-- what is found in a prefix is the first index of the whole list
pub position_or_len-found : {X : Type 0} (p : X → Bool) (xs : List X) (i first : ℕ) (d : X) → i ≤ length xs →
    position p (take i xs) ≡ Some first → (first < i) × (position_or_len p xs ≡ first)
position_or_len-found {X} p xs i first d h found =
    let at = position-Some p (take i xs) first d found in
    let before : first < i = omega (arith, at.0, length-take-le i xs h) in (
      before,
      position_or_len_is p xs first d (omega arith)
          (λ k l. let m : k < i = omega arith in ap p (sym (get_or-take i xs k d m)) ∙ at.2 k l)
          (λ l. ap p (sym (get_or-take i xs first d before)) ∙ at.1),
    )

-- where nothing is found in a prefix, the first index is past it
pub position_or_len-past : {X : Type 0} (p : X → Bool) (xs : List X) (i : ℕ) (d : X) → i ≤ length xs →
    position p (take i xs) ≡ None → i ≤ position_or_len p xs
position_or_len-past p xs i d h none =
    position_or_len-at_least p xs i d h (λ j l. ap p (sym (get_or-take i xs j d l))
    ∙ none_passes p (take i xs) none j d (omega (arith, length-take-le i xs h)))
