-- How a list of cuts keeps its sets in a region. The first place has a word for each right: where its set begins, or 0
-- where it has none. The sets stand after it, as marks of nodes, so none begins at word 0.
use Rattle.std.specs.Prelude.{◌≡◌, ◌≢◌, ◌⊎◌, ℕ, zero, suc, ◌+◌, ◌*◌, ◌<◌, ◌≤◌, Bool, List, length, map, slice_index}
use Rattle.std.specs.Prelude.{Option, Some, None, nat_lt}
use Rattle.std.specs.List.{range_with_len}
use Rattle.finite_sums.specs.Sums.{count_where}
use Rattle.bit_words.specs.Marks.{words_for, marks}
use Rattle.word_region.specs.Words.{Words, words_at}
use Rattle.word_region.specs.declared.Place.{Place}
use Rattle.water_model.specs.CutSets.{CutSets}

-- whether a right has a set
abbrev pub has_set : List ℕ → ℕ → Bool
has_set words right = nat_lt 0 (slice_index words right)

-- the place of a set
abbrev pub set_place : ℕ → ℕ → Place
set_place nodes begin = record { from = begin; len = words_for nodes }

-- the set that begins at a word, or none
abbrev pub set_at : ℕ → List ℕ → ℕ → Option (List Bool)
set_at nodes words zero = None
set_at nodes words (suc w) = Some (marks nodes (words_at words (set_place nodes (suc w))))

-- the set of a right
abbrev pub set_in : ℕ → List ℕ → ℕ → Option (List Bool)
set_in nodes words right = set_at nodes words (slice_index words right)

abbrev pub cut_sets : ℕ → ℕ → List ℕ → CutSets
cut_sets rights nodes words = record { nodes = nodes; sets = map (set_in nodes words) (range_with_len 0 rights) }

-- two sets of `size` words don't overlap
abbrev pub AreApart : ℕ → ℕ → ℕ → Type 0
AreApart size one other = (one + size ≤ other) ⊎ (other + size ≤ one)

-- there is room for a set of each right, the used words are those of the first place and of the sets, and the sets
-- stand after that place and apart
pub record KeepsSets (rights nodes : ℕ) (r : Words) : Type 0 where
  pub size : length r.words ≡ rights * (1 + words_for nodes)
  pub used : r.used ≡ rights + words_for nodes * count_where rights (has_set r.words)
  pub after : (right : ℕ) → right < rights → 0 < slice_index r.words right → rights ≤ slice_index r.words right
  pub within : (right : ℕ) → right < rights → 0 < slice_index r.words right →
      slice_index r.words right + words_for nodes ≤ r.used
  pub apart : (right other : ℕ) → right < rights → other < rights → right ≢ other →
      0 < slice_index r.words right → 0 < slice_index r.words other →
      AreApart (words_for nodes) (slice_index r.words right) (slice_index r.words other)
