-- The entries of a basin: how many there are, their names, and the order of their lines.
use Rattle.std.specs.Prelude.{ℕ, List, length}
use Rattle.water_model.specs.Basin.{node_name, link_name, reservoir_name, right_name}
use Rattle.water_model.specs.Indices.{numbers_from, seniors_first}
use Rattle.water_model.specs.declared.space.Space.{Space}
use Rattle.water_model.specs.declared.space.Space.TheVariants as space
use Rattle.water_model.specs.declared.types.Basin.{Basin}

-- how many entries a space has
abbrev pub count_in : Space → Basin → ℕ
count_in space.Nodes b = length b.nodes
count_in space.Links b = length b.links
count_in space.Reservoirs b = length b.reservoirs
count_in space.Rights b = length b.rights

-- the name of an entry
abbrev pub name_in : Space → Basin → ℕ → List ℕ
name_in space.Nodes b entry = node_name b entry
name_in space.Links b entry = link_name b entry
name_in space.Reservoirs b entry = reservoir_name b entry
name_in space.Rights b entry = right_name b entry

-- the entries in the order of their lines: rights seniors first, all others as in the basin
abbrev pub in_order : Space → Basin → List ℕ
in_order space.Nodes b = numbers_from 0 (length b.nodes)
in_order space.Links b = numbers_from 0 (length b.links)
in_order space.Reservoirs b = numbers_from 0 (length b.reservoirs)
in_order space.Rights b = seniors_first b
