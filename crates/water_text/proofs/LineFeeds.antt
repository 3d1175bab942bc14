-- The first line feed of a piece.
use Rattle.std.proofs.Common.{◌≡◌, ℕ, ◌+◌, ◌-◌, ◌<◌, ◌≤◌, Bool, true, false, refl, sym, ap, ◌∙◌, arith, List, ◌∷◌, ◌++◌}
use Rattle.std.proofs.Common.{length, get_or, take, drop, min, Some, None, inr, get_or-take, length-append}
use Rattle.std.proofs.Common.{length-take, take-append-drop}
use Rattle.std.specs.Prelude.{nat_eq}
use Rattle.std.specs.List.{position}
use Rattle.std.proofs.lemmas.Bool.Decides.{nat_tests}
use Rattle.std.proofs.lemmas.List.{drop_more, length-take-le, take-take, take_all}
use Rattle.std.proofs.lemmas.List.Quantifiers.{position-Some}
use Rattle.water_text.specs.LinesIn.{Takes, TakesToFeed, is_feed}
use Rattle.water_text.proofs.Splits.{none_passes}

-- where one is found in the prefix of a piece, the bytes before it are taken, and it
pub takes_to_feed : (old new piece : List ℕ) (most at : ℕ) → position is_feed (take most piece) ≡ Some at →
    length old + most ≤ 129 → new ≡ old ++ take at (take most piece) → TakesToFeed old new piece (at + 1)
takes_to_feed old new piece most at h room held = record {
  before = before;
  ended = sym (take-append-drop at piece)
      ∙ (ap (λ xs. xs ++ drop at piece) (sym (take-take at most piece (omega (arith, in_prefix))))
      ∙ (ap (λ xs. before ++ xs) (drop_more piece at 0 within)
      ∙ ap (λ x. before ++ x ∷ drop (at + 1) piece) is));
  count = omega (arith, counted);
  no_feed = λ i d l.
      let earlier : i < at = omega (arith, l, counted) in
      ap is_feed (get_or-take at (take most piece) i d earlier)
      ∙ (position-Some is_feed (take most piece) at d h).2 i earlier;
  held = held;
  short = omega (arith, ap length held, length-append old before, counted, in_prefix);
}
  where
    before : List ℕ
    before = take at (take most piece)

    first : (at < length (take most piece)) × (is_feed (get_or (take most piece) at 0) ≡ true)
    first = let found = position-Some is_feed (take most piece) at 0 h in (found.0, found.1)

    in_prefix : at < most
    in_prefix = omega (arith, first.0, length-take most piece)

    within : at < length piece
    within = omega (arith, first.0, length-take most piece)

    counted : length before ≡ at
    counted = length-take-le at (take most piece) (omega (arith, first.0))

    ten : (x : ℕ) → is_feed x ≡ true → x ≡ 10
    ten x e = grind (arith, nat_tests)

    is : get_or piece at 0 ≡ 10
    is = sym (get_or-take most piece at 0 in_prefix) ∙ ten (get_or (take most piece) at 0) first.1

-- where none is found there, all of the prefix is taken: the whole piece, or as much as there is room for
pub takes_prefix : (old new piece : List ℕ) (len most : ℕ) → position is_feed (take most piece) ≡ None →
    length old ≡ len → len ≤ 128 → most ≡ min (length piece) (129 - len) → new ≡ old ++ take most piece →
    Takes (nat_eq (len + length (take most piece)) 129) old new piece (length (take most piece))
takes_prefix old new piece len most h len_is room most_is held =
    by_room (nat_eq (len + length (take most piece)) 129) refl
  where
    counted : length (take most piece) ≡ most
    counted = length-take-le most piece (omega arith)

    length_is : length new ≡ len + length (take most piece)
    length_is = omega (arith, ap length held, length-append old (take most piece))

    same : (m n : ℕ) → nat_eq m n ≡ true → m ≡ n
    same m n e = grind (arith, nat_tests)

    other : (m n : ℕ) → nat_eq m n ≡ false → m ≡ n → ⊥
    other m n e is = grind (arith, nat_tests)

    by_room : (t : Bool) → nat_eq (len + length (take most piece)) 129 ≡ t →
        Takes t old new piece (length (take most piece))
    by_room true e = inr (record {
      no_feed = rw counted (none_passes is_feed (take most piece) h);
      held = rw counted held;
      full = length_is ∙ same (len + length (take most piece)) 129 e;
    })
    by_room false e =
        let apart = other (len + length (take most piece)) 129 e in
        let not_full : len + most ≡ 129 → ⊥ = λ is. apart (omega (arith, counted)) in
        let all : most ≡ length piece = omega (arith, not_full) in
        let whole : take most piece ≡ piece = take_all most piece (omega arith) in
        record {
          all = counted ∙ all;
          no_feed = rw whole at (none_passes is_feed (take most piece) h);
          held = held ∙ ap (λ xs. old ++ xs) whole;
          short = omega (arith, length_is, counted, not_full);
        }
