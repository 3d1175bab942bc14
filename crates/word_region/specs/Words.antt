-- The words of a region.
use Rattle.std.specs.Prelude.{ℕ, ◌+◌, ◌≤◌, List, ◌++◌, length, take, drop, replicate, slice_range}
use Rattle.word_region.specs.declared.Place.{Place}

-- the words of a region, of which the first `used` are handed out
pub record Words : Type 0 where
  pub words : List ℕ
  pub used : ℕ

-- a place that was handed out
abbrev pub IsUsed : Place → Words → Type 0
IsUsed place r = place.from + place.len ≤ r.used

-- the words of a place
abbrev pub words_at : List ℕ → Place → List ℕ
words_at words place = slice_range words place.from (place.from + place.len)

-- the same with other words from a word onwards
abbrev pub with_words : List ℕ → ℕ → List ℕ → List ℕ
with_words words from new = take from words ++ (new ++ drop (from + length new) words)

-- the same with 0 in `len` words
abbrev pub zeroed : List ℕ → ℕ → ℕ → List ℕ
zeroed words from len = with_words words from (replicate len 0)
