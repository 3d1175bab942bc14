-- Words, and how they are spelled.
use Rattle.std.proofs.Common.{arith, ◌≡◌, ℕ, zero, suc, ◌+◌, Bool, true, false, refl, sym, ap, ◌∙◌, List, [], ◌∷◌, drop}
use Rattle.std.proofs.Common.{add-one, Option, Some, None}
use Rattle.std.specs.Prelude.{find, slice_get}
use Rattle.std.specs.Str.{bytes_eq}
use Rattle.std.proofs.lemmas.Slice.Eq.{bytes_eq-Decides}
use Rattle.result_reader.specs.Words.{spelling_of, words, word_of}
use Rattle.result_reader.specs.declared.words.Word.{Word}

-- the search goes on after an element that fails
pub find-next : {X : Type 0} (p : X → Bool) (xs : List X) (i : ℕ) (x : X) (answer : Option X) →
    slice_get xs i ≡ Some x → p x ≡ false → find p (drop i xs) ≡ answer → find p (drop (i + 1) xs) ≡ answer
find-next {X} p xs i x answer at fails h = ap (λ n. find p (drop n xs)) (add-one i) ∙ (after xs i at ∙ h)
  where
    after : (xs : List X) (i : ℕ) → slice_get xs i ≡ Some x → find p (drop (suc i) xs) ≡ find p (drop i xs)
    after [] i at = let none : None ≡ Some x = at in cc
    after (y ∷ ys) zero at = let same : Some y ≡ Some x = at in let is : y ≡ x = cc in rw (is, fails) refl
    after (y ∷ ys) (suc i) at = after ys i at

find-Some : {X : Type 0} (p : X → Bool) (xs : List X) (x : X) → find p xs ≡ Some x → p x ≡ true
find-Some p [] x h = cc
find-Some p (y ∷ ys) x h = grind (arith, find-Some p ys x)

-- what is read as a word is its spelling
pub word_spelled : (bytes : List ℕ) (w : Word) → word_of bytes ≡ Some w → bytes ≡ spelling_of w
unfolding word_of
word_spelled bytes w h =
    sym ((bytes_eq-Decides (spelling_of w) bytes).0 (find-Some (λ w. bytes_eq (spelling_of w) bytes) words w h))

-- the word that is spelled is read
pub word_read : (w : Word) → Some w ≡ word_of (spelling_of w)
unfolding word_of
word_read w = grind arith
