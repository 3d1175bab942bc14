-- Names and their indices, kept in a map.
use Rattle.std.specs.Prelude.{◌≡◌, ℕ, List}
use Rattle.std.specs.Borrow.{Bor}
use Rattle.indexmap.specs.IndexMap.{IndexMap}
use Rattle.first_index.specs.Indices.{index_at}
use Rattle.water_model.specs.declared.space.Space.{Space}
use Rattle.water_model.specs.declared.types.Basin.{Basin}
use Rattle.basin_names.specs.Named.{named}

-- a map has the index of each name of a space
abbrev pub KeepsNames : {S : Type 0} → IndexMap (Bor (List ℕ)) ℕ S → Basin → Space → Type 0
KeepsNames indices b space = (name : List ℕ) → index_at indices name ≡ named b space name
