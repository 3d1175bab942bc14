-- What the fields of a tree mean, and what they keep.
use Rattle.std.specs.Prelude.{ℕ, ◌≡◌, ◌+◌, ◌*◌, List, length}
use Rattle.residual_tree.specs.declared.ResidualTree.TheInside.{Inside}

-- the word of each node
abbrev pub words : Inside → List ℕ
words i = i.labels

-- there is room for all basin nodes among those freed, those labeled and the ways that were found
pub record HasTreeRoom (i : Inside) : Type 0 where
  pub room : length i.room.now + 3 ≡ 3 * length i.labels
