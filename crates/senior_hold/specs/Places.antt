-- Where the circulation and the tree of a solver lie.
use Rattle.std.specs.Prelude.{ℕ, ◌≡◌, ◌+◌, ◌-◌, ◌≤◌, List, length}
use Rattle.water_model.specs.declared.types.Basin.{Basin}
use Rattle.word_region.specs.Words.{Words, IsUsed}
use Rattle.circulation.specs.declared.Circulation.{Circulation}
use Rattle.circulation.specs.Contents.{Contents, network}
use Rattle.circulation.specs.Places.{word_count, fixed_count, AreFixedOf, HoldsArcs}
use Rattle.residual_tree.specs.TreeWords.{tree_words}
use Rattle.senior_hold.specs.MonthNetwork.{arc_count, HasBasinEnds}
use Rattle.senior_hold.specs.Spilled.{spilled}
use Rattle.senior_hold.specs.declared.places.Places.{Places}

-- how many words both take
abbrev pub month_words : Basin → ℕ
month_words b = word_count (length b.nodes) (arc_count (spilled b)) + tree_words (length b.nodes)

-- of these words, those that never change are those of a circulation over the basin's arcs
pub record HasArcs (b : Basin) (circ : Circulation) (kept moved : List ℕ) : Type 0 where
  pub contents : Contents
  pub fixed : AreFixedOf circ contents kept
  pub ends : HasBasinEnds (spilled b) (network contents)
  pub count : length moved ≡ word_count circ.nodes circ.arcs - fixed_count circ.nodes circ.arcs

-- the region holds the basin's arcs, and after them lies the tree
pub record HasPlaces (b : Basin) (r : Words) (p : Places) : Type 0 where
  pub contents : Contents
  pub held : HoldsArcs r p.circ contents
  pub ends : HasBasinEnds (spilled b) (network contents)
  pub next : p.tree.from ≡ p.circ.place.from + p.circ.place.len
  pub size : p.tree.len ≡ tree_words (length b.nodes)
  pub used : IsUsed p.tree r
  pub fits : r.used ≤ length r.words
