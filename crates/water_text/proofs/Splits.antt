-- Lists that are cut where an element passes a test.
use Rattle.std.proofs.Common.{◌≡◌, ℕ, ◌+◌, ◌-◌, Bool, true, false, refl, sym, ap, ◌∙◌, arith, List, [], ◌∷◌}
use Rattle.std.proofs.Common.{length, take, drop, All, Some, None, cond}
use Rattle.std.specs.Prelude.{nat_lt}
use Rattle.std.specs.List.{slice_split, onto_first, position, position_or_len}
use Rattle.std.proofs.lemmas.Bool.{ltb-false, ltb-true}
use Rattle.std.proofs.lemmas.List.{take_rest}
use Rattle.std.proofs.lemmas.List.Splits.{slice_split_first, slice_split_none}
use Rattle.std.proofs.lemmas.List.Sums.{fails_before_first}

-- a list has a piece
pub some_piece : (p : ℕ → Bool) (bytes : List ℕ) → (piece : List ℕ) × (pieces : List (List ℕ)) ×
    (slice_split p bytes ≡ piece ∷ pieces)
some_piece p [] = ([], [], refl)
some_piece p (c ∷ cs) = by_test (p c) (slice_split p cs)
  where
    by_test : (t : Bool) (parts : List (List ℕ)) → (piece : List ℕ) × (pieces : List (List ℕ)) ×
        (cond t ([] ∷ parts) (onto_first c parts) ≡ piece ∷ pieces)
    by_test true parts = ([], parts, refl)
    by_test false [] = (c ∷ [], [], refl)
    by_test false (part ∷ parts) = (c ∷ part, parts, refl)

-- no element passes where no index is found
pub none_passes : {X : Type 0} (p : X → Bool) (xs : List X) → position p xs ≡ None → All (λ x. p x ≡ false) xs
none_passes p xs h = by_test (nat_lt first (length xs)) refl h
  where
    first : ℕ
    first = position_or_len p xs

    by_test : (t : Bool) → nat_lt first (length xs) ≡ t → cond t (Some first) None ≡ None → All (λ x. p x ≡ false) xs
    by_test true e k = cc
    by_test false e k = λ i d l.
        let all = ltb-false first (length xs) e in fails_before_first p xs i d (omega arith)

-- without an element at which it is cut, a list is the one piece
pub split-whole : {X : Type 0} (p : X → Bool) (xs : List X) → position p xs ≡ None → slice_split p xs ≡ xs ∷ []
split-whole p xs h = slice_split_none p xs (none_passes p xs h)

-- with one, the first piece ends there
pub split-cut : (p : ℕ → Bool) (xs : List ℕ) (at : ℕ) → position p xs ≡ Some at →
    slice_split p xs ≡ take at xs ∷ slice_split p (take (length xs - (at + 1)) (drop (at + 1) xs))
split-cut p xs at h = by_test (nat_lt first (length xs)) refl h
  where
    first : ℕ
    first = position_or_len p xs

    by_test : (t : Bool) → nat_lt first (length xs) ≡ t → cond t (Some first) None ≡ Some at →
        slice_split p xs ≡ take at xs ∷ slice_split p (take (length xs - (at + 1)) (drop (at + 1) xs))
    by_test true e h =
        let is : first ≡ at = cc in
        slice_split_first p xs 0 (ltb-true first (length xs) e)
        ∙ (ap (λ n. take n xs ∷ slice_split p (drop (n + 1) xs)) is
        ∙ ap (λ rest. take at xs ∷ slice_split p rest) (sym (take_rest xs (at + 1))))
    by_test false e h = cc
