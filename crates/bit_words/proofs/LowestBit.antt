-- The lowest bit of a word that is 1, from a bit onwards.
use Rattle.std.proofs.Common.{◌≡◌, ℕ, ◌+◌, ◌-◌, ◌/◌, ◌^◌, ◌<◌, ◌≤◌, ap, sym, ◌∙◌, inl, inr, arith}
use Rattle.std.specs.Int.{bit_at, w64, trailing_zeros}
use Rattle.std.proofs.lemmas.Bool.{cases_lt}
use Rattle.std.proofs.lemmas.Nat.{shr_le}
use Rattle.std.proofs.lemmas.Nat.Bits.{bit_at-zero, bit_at_above, bit_at-trailing_zeros}
use Rattle.bit_words.specs.Marks.{IsLowestFrom}
use Rattle.bit_words.proofs.Marks.{bit_at_shr}

-- the bits from one onwards are those of the word that is shifted down by as many
shifted : (word from i : ℕ) → from ≤ i → bit_at word i ≡ bit_at (word / 2 ^ from) (i - from)
shifted word from i after =
    let sum : i ≡ from + (i - from) = omega arith in
    ap (bit_at word) sum ∙ sym (bit_at_shr word from (i - from))

lowest_in : (word from low : ℕ) → word < 2 ^ 64 → bit_at (word / 2 ^ from) low ≡ 1 →
    ((i : ℕ) → i < low → bit_at (word / 2 ^ from) i ≡ 0) → IsLowestFrom word from (from + low)
lowest_in word from low fits one zero = record {
  after = omega arith;
  below = elim (cases_lt (from + low) 64) [
    | inl below ↦ below
    | inr past ↦ absurd (omega (arith, here, bit_at_above word 64 (from + low) fits past))
  ];
  one = here;
  least = λ i after before. shifted word from i after ∙ zero (i - from) (omega arith);
}
  where
    here : bit_at word (from + low) ≡ 1
    here = sym (bit_at_shr word from low) ∙ one

pub lowest_found : (word from : ℕ) → word < 2 ^ 64 → 0 < word / 2 ^ from →
    IsLowestFrom word from (from + trailing_zeros w64 (word / 2 ^ from))
lowest_found word from fits some =
    let low = bit_at-trailing_zeros w64 (word / 2 ^ from) some (omega (arith, shr_le word from)) in
    lowest_in word from (trailing_zeros w64 (word / 2 ^ from)) fits low.1 low.2

pub none_found : (word from : ℕ) → word / 2 ^ from ≡ 0 → (i : ℕ) → from ≤ i → bit_at word i ≡ 0
none_found word from none i after =
    shifted word from i after ∙ ap (λ (w : ℕ). bit_at w (i - from)) none ∙ bit_at-zero (i - from)
