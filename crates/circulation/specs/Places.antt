-- Where a circulation lies in a region of words.
use Rattle.std.specs.Prelude.{ℕ, ◌≡◌, ◌+◌, ◌*◌, ◌/◌, ◌%◌, ◌^◌, ◌<◌, List, ◌++◌, length, map, take, drop, slice_index}
use Rattle.word_region.specs.Words.{Words, IsUsed, words_at}
use Rattle.circulation.specs.declared.Ends.{Ends}
use Rattle.circulation.specs.declared.Circulation.{Circulation}
use Rattle.circulation.specs.Contents.{Contents, IsCirculation}
use Rattle.circulation.specs.Rooms.{AreRooms}

-- how many words it takes
abbrev pub word_count : ℕ → ℕ → ℕ
word_count nodes arcs = 8 * arcs + 8 * nodes + 16

-- how many of them, from the first on, never change
abbrev pub fixed_count : ℕ → ℕ → ℕ
fixed_count nodes arcs = 5 * arcs + nodes + 2

-- a word has both ends of an arc
abbrev pub tail_of : ℕ → ℕ
tail_of word = word / 4294967296

abbrev pub head_of : ℕ → ℕ
head_of word = word % 4294967296

-- the tails of arcs, and their heads
abbrev pub tails : List Ends → List ℕ
tails es = map (λ e. e.from) es

abbrev pub heads : List Ends → List ℕ
heads es = map (λ e. e.to) es

-- the words that never change are those of the contents
pub record AreFixedOf (circ : Circulation) (c : Contents) (kept : List ℕ) : Type 0 where
  pub pairs : List ℕ
  pub nodes : c.nodes ≡ circ.nodes
  pub arcs : length pairs ≡ circ.arcs
  pub from : c.from ≡ map tail_of pairs
  pub to : c.to ≡ map head_of pairs
  pub steps : length c.rows.step ≡ 2 * circ.arcs
  pub small : (p : ℕ) → slice_index c.rows.end p < 2 ^ 32
  pub fixed : kept ≡ pairs ++ (c.rows.step ++ (c.rows.end ++ c.rows.first))
  pub circulation : IsCirculation c

-- the words are those of the contents: first those that never change, and then those that do
pub record AreWordsOf (circ : Circulation) (c : Contents) (kept moved : List ℕ) : Type 0 where
  pub fixed : AreFixedOf circ c kept
  pub rooms : List ℕ
  pub unused : List ℕ
  pub of_steps : AreRooms c.lower c.upper c.flow rooms
  pub moving : moved ≡ rooms ++ (c.lower ++ (c.supply ++ (c.scratch ++ unused)))

-- the same of all words of its place
abbrev pub HasWords : Circulation → Contents → List ℕ → Type 0
HasWords circ c words =
    AreWordsOf circ c (take (fixed_count circ.nodes circ.arcs) words) (drop (fixed_count circ.nodes circ.arcs) words)

-- the region holds the arcs of these contents, and their rows
pub record HoldsArcs (r : Words) (circ : Circulation) (c : Contents) : Type 0 where
  pub used : IsUsed circ.place r
  pub size : circ.place.len ≡ word_count circ.nodes circ.arcs
  pub fixed : AreFixedOf circ c (take (fixed_count circ.nodes circ.arcs) (words_at r.words circ.place))

-- the region holds the circulation with these contents
pub record Holds (r : Words) (circ : Circulation) (c : Contents) : Type 0 where
  pub used : IsUsed circ.place r
  pub size : circ.place.len ≡ word_count circ.nodes circ.arcs
  pub words : HasWords circ c (words_at r.words circ.place)
