-- What a write to some words of a region leaves at a place.
use Rattle.std.proofs.Common.{◌≡◌, ◌⊎◌, ℕ, ◌+◌, ◌-◌, ◌<◌, ◌≤◌, List, ◌++◌, length, take, drop, get_or, replicate, refl}
use Rattle.std.proofs.Common.{ap, sym, ◌∙◌, inl, inr, arith}
use Rattle.std.specs.Prelude.{Vec, slice_set}
use Rattle.std.specs.Vec.{with_items_from}
use Rattle.std.proofs.lemmas.List.{length-append, length-take-le, length-drop, length-replicate, get_or-take}
use Rattle.std.proofs.lemmas.List.{get_or_append_left, take-append-le, take-take, take-set-le, take_at, drop_at}
use Rattle.std.proofs.lemmas.List.{drop-drop, drop-set-lt}
use Rattle.std.proofs.lemmas.List.Edits.{length-between}
use Rattle.std.proofs.lemmas.Slice.{between_is}
use Rattle.word_region.specs.Words.{words_at, with_words, zeroed}
use Rattle.word_region.specs.declared.Place.{Place}

-- a place ends before a word, or begins after it
abbrev pub LiesOutside : Place → ℕ → ℕ → Type 0
LiesOutside place from end = (place.from + place.len ≤ from) ⊎ (end ≤ place.from)

at_is : (words : List ℕ) (place : Place) →
    words_at words place ≡ drop place.from (take (place.from + place.len) words)
at_is words place = between_is words place.from (place.from + place.len)

pub length-words_at : (words : List ℕ) (place : Place) → place.from + place.len ≤ length words →
    length (words_at words place) ≡ place.len
length-words_at words place fits = omega (arith, length-between words place.from (place.from + place.len) fits)

-- what stands in a Vec whose words were written through a `&mut`
pub written_back : {Z : Type 0} (v : Vec ℕ Z) (from : ℕ) (new : List ℕ) → from ≤ length v.items →
    (with_items_from v from new).items ≡ take (length v.items) (with_words v.items from new)
written_back v from new fits =
    ap (λ (xs : List ℕ). take v.len (xs ++ drop (length xs) v.items)) whole
    ∙ take-append-le v.len now (drop (length now) v.items) (omega (arith, v.ok.0, long))
    ∙ ap (λ (n : ℕ). take n now) v.ok.0
  where
    now : List ℕ
    now = with_words v.items from new

    whole : take from v.items ++ (new ++ drop (length new) (drop from v.items)) ≡ with_words v.items from new
    whole = ap (λ (back : List ℕ). take from v.items ++ (new ++ back)) (drop-drop (length new) from v.items)

    long : length v.items ≤ length (with_words v.items from new)
    long = omega (
      arith,
      length-append (take from v.items) (new ++ drop (from + length new) v.items),
      length-append new (drop (from + length new) v.items),
      length-take-le from v.items fits,
      length-drop (from + length new) v.items,
    )

-- ---- one word

pub words_at-set_other : (words : List ℕ) (place : Place) (i x : ℕ) → LiesOutside place i (i + 1) →
    words_at (slice_set words i x) place ≡ words_at words place
words_at-set_other words place i x out = elim out [
  | inl before ↦
      at_is (slice_set words i x) place ∙ ap (drop place.from) (take-set-le (place.from + place.len) words i x before)
      ∙ sym (at_is words place)
  | inr after ↦ ap (take (place.from + place.len - place.from)) (drop-set-lt place.from words i x (omega arith))
]

-- ---- some words

pub length-with_words : (words : List ℕ) (from : ℕ) (new : List ℕ) → from + length new ≤ length words →
    length (with_words words from new) ≡ length words
length-with_words words from new fits =
    omega (
      arith,
      length-append (take from words) (new ++ drop (from + length new) words),
      length-append new (drop (from + length new) words),
      length-take-le from words (omega arith),
      length-drop (from + length new) words,
    )

pub get_or-with_words_before : (words : List ℕ) (from : ℕ) (new : List ℕ) (k : ℕ) → k < from → from ≤ length words →
    get_or (with_words words from new) k 0 ≡ get_or words k 0
get_or-with_words_before words from new k before fits =
    get_or_append_left (take from words) (new ++ drop (from + length new) words) 0 k
    (omega (arith, length-take-le from words fits))
    ∙ get_or-take from words k 0 before

pub words_at-with_words_other : (words : List ℕ) (from : ℕ) (new : List ℕ) (place : Place) →
    from + length new ≤ length words → LiesOutside place from (from + length new) →
    words_at (with_words words from new) place ≡ words_at words place
words_at-with_words_other words from new place fits out = elim out [
  | inl before ↦
      at_is (with_words words from new) place ∙ ap (drop place.from) (prefix before) ∙ sym (at_is words place)
  | inr after ↦
      ap (take (place.from + place.len - place.from))
      (back place.from (place.from - (from + length new)) (omega arith))
]
  where
    prefix_length : length (take from words) ≡ from
    prefix_length = length-take-le from words (omega arith)

    prefix : place.from + place.len ≤ from →
        take (place.from + place.len) (with_words words from new) ≡ take (place.from + place.len) words
    prefix before =
        take-append-le (place.from + place.len) (take from words) (new ++ drop (from + length new) words)
        (omega (arith, prefix_length))
        ∙ take-take (place.from + place.len) from words before

    -- what is dropped is the prefix, the new words and some more
    back : (k more : ℕ) → k ≡ from + (length new + more) → drop k (with_words words from new) ≡ drop k words
    back k more sum =
        let sum_here : from + length new + more ≡ k = omega arith in
        ap (λ (n : ℕ). drop n (with_words words from new)) sum
        ∙ sym (drop-drop (length new + more) from (with_words words from new))
        ∙ ap (drop (length new + more))
        (drop_at (take from words) (new ++ drop (from + length new) words) from prefix_length)
        ∙ sym (drop-drop more (length new) (new ++ drop (from + length new) words))
        ∙ ap (drop more) (drop_at new (drop (from + length new) words) (length new) refl)
        ∙ drop-drop more (from + length new) words
        ∙ ap (λ (n : ℕ). drop n words) sum_here

pub words_at-with_words : (words new : List ℕ) (place : Place) → place.from ≤ length words → length new ≡ place.len →
    words_at (with_words words place.from new) place ≡ new
words_at-with_words words new place fits same =
    ap (take (place.from + place.len - place.from))
    (drop_at (take place.from words) (new ++ drop (place.from + length new) words) place.from
    (length-take-le place.from words fits))
    ∙ take_at new (drop (place.from + length new) words) (place.from + place.len - place.from) (omega arith)

-- what was written is written over
pub with_words_again : (words : List ℕ) (from : ℕ) (old new : List ℕ) → from ≤ length words → length old ≡ length new →
    with_words (with_words words from old) from new ≡ with_words words from new
with_words_again words from old new fits same =
    ap (λ (prefix : List ℕ). prefix ++ (new ++ drop (from + length new) (with_words words from old))) prefix
    ∙ ap (λ (back : List ℕ). take from words ++ (new ++ back)) back
  where
    prefix_length : length (take from words) ≡ from
    prefix_length = length-take-le from words fits

    prefix : take from (with_words words from old) ≡ take from words
    prefix = take_at (take from words) (old ++ drop (from + length old) words) from prefix_length

    back : drop (from + length new) (with_words words from old) ≡ drop (from + length new) words
    back =
        sym (drop-drop (length new) from (with_words words from old))
        ∙ ap (drop (length new)) (drop_at (take from words) (old ++ drop (from + length old) words) from prefix_length)
        ∙ drop_at old (drop (from + length old) words) (length new) same
        ∙ ap (λ (n : ℕ). drop (from + n) words) same

pub length-zeroed : (words : List ℕ) (from len : ℕ) → from + len ≤ length words →
    length (zeroed words from len) ≡ length words
length-zeroed words from len fits =
    length-with_words words from (replicate len 0) (omega (arith, length-replicate {A = ℕ} len 0))
