-- How rows are made: the steps are chained by the node that they leave, in turn, and then written row by row.
use Rattle.std.specs.Prelude.{ℕ, ◌≡◌, ◌+◌, ◌^◌, ◌<◌, ◌≤◌, ◌≢◌, List, ◌++◌, length, map, slice_index}
use Rattle.circulation.specs.Residual.{arc_of, is_backward, by_direction, start_of}
use Rattle.circulation.specs.Rows.{over, Leads}
use Rattle.circulation.specs.Places.{tail_of, head_of}

-- the tails and the heads of arcs whose ends are packed in words
abbrev pub tails_of : List ℕ → List ℕ
tails_of pairs = map tail_of pairs

abbrev pub heads_of : List ℕ → List ℕ
heads_of pairs = map head_of pairs

-- the nodes that steps leave, by their turns: the heads of arcs, and then the tails
abbrev pub keys_of : List ℕ → List ℕ
keys_of pairs = heads_of pairs ++ tails_of pairs

-- a is the least index from `start` on with the key v, or the number of keys where there is none
pub record IsNext (keys : List ℕ) (v start a : ℕ) : Type 0 where
  pub within : a ≤ length keys
  pub after : start ≤ a
  pub here : a < length keys → slice_index keys a ≡ v
  pub skipped : (b : ℕ) → start ≤ b → b < a → slice_index keys b ≢ v

-- the first index with each key, and for each index the next one with its key
pub record AreChains (keys : List ℕ) (nodes : ℕ) (first next : List ℕ) : Type 0 where
  pub firsts : length first ≡ nodes + 1
  pub nexts : length next ≡ length keys
  pub starts : (v : ℕ) → v ≤ nodes → IsNext keys v 0 (slice_index first v)
  pub follows : (a : ℕ) → a < length keys → IsNext keys (slice_index keys a) (a + 1) (slice_index next a)

-- the turn of a step: those backward come first, by arc, and then those forward
abbrev pub turn_of : ℕ → ℕ → ℕ
turn_of arcs s = by_direction (is_backward s) (arcs + arc_of s) (arc_of s)

-- the indices from `first` to below `last` have the steps that leave the node v and whose turns are below the bound
-- `upto`, with the nodes that they enter
pub record IsPartRow (from to : List ℕ) (v upto first last : ℕ) (steps ends : List ℕ) : Type 0 where
  pub order : first ≤ last
  pub leads : (p : ℕ) → first ≤ p → p < last → Leads from to v (slice_index steps p) (slice_index ends p)
  pub turns : (p : ℕ) → first ≤ p → p < last → turn_of (length from) (slice_index steps p) < upto
  pub once : (p q : ℕ) → first ≤ p → p < q → q < last → slice_index steps p ≢ slice_index steps q
  pub all : (s : ℕ) → arc_of s < length from → start_of (over from to) s ≡ v → turn_of (length from) s < upto →
      (p : ℕ) × ((first ≤ p) × ((p < last) × (slice_index steps p ≡ s)))

-- the indices below `last` have steps that leave nodes below n, each once
pub record AreApart (from to : List ℕ) (n last : ℕ) (steps : List ℕ) : Type 0 where
  pub arcs : (p : ℕ) → p < last → arc_of (slice_index steps p) < length from
  pub starts : (p : ℕ) → p < last → start_of (over from to) (slice_index steps p) < n
  pub once : (p q : ℕ) → p < q → q < last → slice_index steps p ≢ slice_index steps q

-- the lists are the same below the index `last`
pub record AreSameBelow (last : ℕ) (steps ends steps' ends' : List ℕ) : Type 0 where
  pub same_steps : (p : ℕ) → p < last → slice_index steps' p ≡ slice_index steps p
  pub same_ends : (p : ℕ) → p < last → slice_index ends' p ≡ slice_index ends p

-- each of the words is less than 2^32
abbrev pub AreSmall : List ℕ → Type 0
AreSmall ends = (p : ℕ) → slice_index ends p < 2 ^ 32
