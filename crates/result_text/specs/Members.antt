-- The lines of a set whose nodes are marked in words, node by node.
use Rattle.std.specs.Prelude.{ℕ, List, [], ◌∷◌, if◌then◌else◌}
use Rattle.std.specs.List.{flat_map}
use Rattle.bit_words.specs.Marks.{is_marked}
use Rattle.water_model.specs.Indices.{numbers_from}
use Rattle.result_lines.specs.declared.item.Item.{Item}
use Rattle.result_lines.specs.declared.item.Item.TheVariants as line

-- the line of a node, if it is marked
abbrev pub member_at : List ℕ → ℕ → List Item
member_at words n = if is_marked words n then line.Member n ∷ [] else []

-- the lines of the first `nodes` nodes
abbrev pub members_of : ℕ → List ℕ → List Item
members_of nodes words = flat_map (member_at words) (numbers_from 0 nodes)
