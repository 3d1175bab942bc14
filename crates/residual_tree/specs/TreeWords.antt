-- How many words a tree takes.
use Rattle.std.specs.Prelude.{ℕ, ◌+◌, ◌*◌}
use Rattle.bit_words.specs.Marks.{words_for}

-- one for each node, the marks, and three for each basin node
abbrev pub tree_words : ℕ → ℕ
tree_words nodes = 4 * nodes + 1 + words_for nodes
