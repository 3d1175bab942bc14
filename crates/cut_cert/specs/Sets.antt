-- The set of a right in a list of cuts, and the numbers that a bound is made of.
use Rattle.std.specs.Prelude.{◌≡◌, ℕ, ◌*◌, ◌^◌, ◌<◌, ◌≤◌, Bool, [], List, length, slice_index, unwrap_or, IsSome, All}
use Rattle.finite_sums.specs.Sums.{total}
use Rattle.bit_words.specs.Marks.{marks}
use Rattle.water_model.specs.CutSets.{CutSets, set_of}
use Rattle.water_model.specs.declared.types.Basin.{Basin}

-- the set of a right, or the empty one
abbrev pub cut_at : CutSets → ℕ → List Bool
cut_at cuts right = unwrap_or (set_of cuts right) []

-- the set of the basin's nodes that words mark, 64 to a word
abbrev pub marked_nodes : Basin → List ℕ → List Bool
marked_nodes b words = marks (length b.nodes) words

-- a list of cuts over the basin's rights and nodes in which the right has a set
pub record HasCut (b : Basin) (cuts : CutSets) (right : ℕ) : Type 0 where
  pub in_range : right < length b.rights
  pub rights : length cuts.sets ≡ length b.rights
  pub nodes : cuts.nodes ≡ length b.nodes
  pub held : IsSome (set_of cuts right)

-- supplies by node and deliveries by right, small enough that their sums fit
pub record AreAmounts (b : Basin) (supply delivered : List ℕ) : Type 0 where
  pub supplies : length supply ≡ length b.nodes
  pub small : total (length b.nodes) (λ n. slice_index supply n) < 4 * 10 ^ 13
  pub deliveries : length delivered ≡ length b.rights
  pub most : All (λ d. d ≤ 10 ^ 9) delivered
