-- Marks of indices by the bits of words, 64 to a word.
use Rattle.std.specs.Prelude.{ℕ, ◌≡◌, ◌==◌, ◌+◌, ◌/◌, ◌%◌, ◌<◌, ◌≤◌, ◌&&◌, Bool, true, false, List, map, slice_index}
use Rattle.std.specs.List.{range_with_len}
use Rattle.std.specs.Int.{bit_at}

-- how many words hold the marks of n indices
abbrev pub words_for : ℕ → ℕ
words_for n = (n + 63) / 64

-- whether an index is marked
abbrev pub is_marked : List ℕ → ℕ → Bool
is_marked words p = bit_at (slice_index words (p / 64)) (p % 64) == 1

-- the marks of the first n indices
abbrev pub marks : ℕ → List ℕ → List Bool
marks n words = map (is_marked words) (range_with_len 0 n)

-- whether both lists mark an index
abbrev pub in_both : List ℕ → List ℕ → ℕ → Bool
in_both words others p = is_marked words p && is_marked others p

-- the least index that both mark, from an index onwards and below a bound
pub record IsNextInBoth (words others : List ℕ) (from indices p : ℕ) : Type 0 where
  pub after : from ≤ p
  pub below : p < indices
  pub marked : in_both words others p ≡ true
  pub least : (q : ℕ) → from ≤ q → q < p → in_both words others q ≡ false

-- the lowest bit that is 1 in a word of 64 bits, of those from a bit onwards
pub record IsLowestFrom (word from bit : ℕ) : Type 0 where
  pub after : from ≤ bit
  pub below : bit < 64
  pub one : bit_at word bit ≡ 1
  pub least : (i : ℕ) → from ≤ i → i < bit → bit_at word i ≡ 0
