-- The entries that names name.
use Rattle.std.specs.Prelude.{ℕ, List, find, Option}
use Rattle.std.specs.Str.{bytes_eq}
use Rattle.water_model.specs.Entries.{count_in, name_in}
use Rattle.water_model.specs.Indices.{numbers_from}
use Rattle.water_model.specs.declared.space.Space.{Space}
use Rattle.water_model.specs.declared.space.Space.TheVariants.{Nodes, Rights}
use Rattle.water_model.specs.declared.types.Basin.{Basin}

-- the entry of a name: the first that has it, and in a valid basin the only one
abbrev pub named : Basin → Space → List ℕ → Option ℕ
named b space name = find (λ at. bytes_eq name (name_in space b at)) (numbers_from 0 (count_in space b))

-- the node of a name
abbrev pub node_named : Basin → List ℕ → Option ℕ
node_named b name = named b Nodes name

-- the right of a name
abbrev pub right_named : Basin → List ℕ → Option ℕ
right_named b name = named b Rights name
