-- Marks of two lists by the bits of both words.
use Rattle.std.proofs.Common.{◌≡◌, ◌==◌, ℕ, ◌+◌, ◌-◌, ◌*◌, ◌/◌, ◌%◌, ◌<◌, ◌≤◌, zero, suc, min, false, List}
use Rattle.std.proofs.Common.{◌&&◌, bit_and, refl, ap, sym, ◌∙◌, inl, inr, arith}
use Rattle.std.specs.Prelude.{slice_index}
use Rattle.std.specs.Int.{bit_at}
use Rattle.std.proofs.lemmas.Bool.{cases_lt}
use Rattle.std.proofs.lemmas.Nat.Bits.{bit_at_and, bit_at-lt}
use Rattle.bit_words.specs.Marks.{in_both, IsNextInBoth, IsLowestFrom}

both_ones : (x y : ℕ) → x < 2 → y < 2 → (min x y == 1) ≡ (x == 1 && y == 1)
both_ones zero zero h k = refl
both_ones zero (suc zero) h k = refl
both_ones (suc zero) zero h k = refl
both_ones (suc zero) (suc zero) h k = refl
both_ones (suc (suc x)) y h k = absurd (omega arith)
both_ones x (suc (suc y)) h k = absurd (omega arith)

-- the words at an index in both lists, bit by bit
abbrev word_in_both : List ℕ → List ℕ → ℕ → ℕ
word_in_both words others at = bit_and (slice_index words at) (slice_index others at)

both_is : (words others : List ℕ) (q : ℕ) →
    in_both words others q ≡ (bit_at (word_in_both words others (q / 64)) (q % 64) == 1)
both_is words others q =
    let w = slice_index words (q / 64) in
    let o = slice_index others (q / 64) in
    sym (ap (λ (n : ℕ). n == 1) (bit_at_and w o (q % 64))
    ∙ both_ones (bit_at w (q % 64)) (bit_at o (q % 64)) (bit_at-lt w (q % 64)) (bit_at-lt o (q % 64)))

-- a bit of the words is the mark of the bit's index
at_bit : (words others : List ℕ) (at q n : ℕ) → at * 64 ≤ q → q < (at + 1) * 64 →
    bit_at (word_in_both words others at) (q - at * 64) ≡ n → in_both words others q ≡ (n == 1)
at_bit words others at q n after before is =
    let word : q / 64 ≡ at = omega arith in
    let bit : q % 64 ≡ q - at * 64 = omega arith in
    both_is words others q
    ∙ ap (λ (k : ℕ). bit_at (word_in_both words others k) (q % 64) == 1) word
    ∙ ap (λ (k : ℕ). bit_at (word_in_both words others at) k == 1) bit
    ∙ ap (λ (k : ℕ). k == 1) is

-- no index of the earlier words is marked in both, and none of this word below a bit
pub unmarked_to : (words others : List ℕ) (from indices at low last : ℕ) →
    ((q : ℕ) → from ≤ q → q < indices → q < at * 64 → in_both words others q ≡ false) → low ≡ from - at * 64 →
    last ≤ (at + 1) * 64 →
    ((i : ℕ) → low ≤ i → i < last - at * 64 → bit_at (word_in_both words others at) i ≡ 0) →
    (q : ℕ) → from ≤ q → q < indices → q < last → in_both words others q ≡ false
unmarked_to words others from indices at low last earlier start end zeros q after below before =
    elim (cases_lt q (at * 64)) [
      | inl h ↦ earlier q after below h
      | inr h ↦ at_bit words others at q 0 h (omega arith) (zeros (q - at * 64) (omega (arith, start)) (omega arith))
    ]

pub next_found : (words others : List ℕ) (from indices at low bit : ℕ) →
    ((q : ℕ) → from ≤ q → q < indices → q < at * 64 → in_both words others q ≡ false) → low ≡ from - at * 64 →
    IsLowestFrom (word_in_both words others at) low bit → at * 64 + bit < indices →
    IsNextInBoth words others from indices (at * 64 + bit)
next_found words others from indices at low bit earlier start lowest inside = record {
  after = omega (arith, start, lowest.after);
  below = inside;
  marked = at_bit words others at (at * 64 + bit) 1 (omega arith) (omega (arith, lowest.below))
      (ap (bit_at (word_in_both words others at)) shift ∙ lowest.one);
  least = λ q after before.
      unmarked_to words others from indices at low (at * 64 + bit) earlier start (omega (arith, lowest.below))
      (λ i above below. lowest.least i above (omega arith)) q after (omega arith) before;
}
  where
    shift : at * 64 + bit - at * 64 ≡ bit
    shift = omega arith
