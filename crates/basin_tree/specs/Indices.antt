-- Which entry a text names.
use Rattle.std.specs.Prelude.{ℕ, List, ◌++◌, codes, Option}
use Rattle.toml.specs.Data.{Members}
use Rattle.first_index.specs.Indices.{first_from}
use Rattle.toml_tree.specs.Texts.{texts_after, is_the_text}
use Rattle.basin_tree.specs.declared.tables.BasinTable.{BasinTable}
use Rattle.basin_tree.specs.declared.tables.BasinTable.TheVariants.{Node, Link, Reservoir, Diversion, Instream, Zone}
use Rattle.basin_tree.specs.declared.tables.Space.{Space}
use Rattle.basin_tree.specs.declared.tables.Space.TheVariants.{Nodes, Links, Reservoirs, Diversions, Rights}
use Rattle.basin_tree.specs.Entries.{items_at}

-- the key whose text names an entry. A reservoir is named by its node
abbrev pub own_key : BasinTable → List ℕ
own_key Reservoir = codes "node"
own_key _ = codes "name"

abbrev pub texts_in : Members → BasinTable → List (Option (List ℕ))
texts_in tree table = texts_after (own_key table) (items_at tree table)

-- the texts that name the entries of a space, in their order
abbrev pub texts_of : Members → Space → List (Option (List ℕ))
texts_of tree Nodes = texts_in tree Node
texts_of tree Links = texts_in tree Link
texts_of tree Reservoirs = texts_in tree Reservoir
texts_of tree Diversions = texts_in tree Diversion
texts_of tree Rights = texts_in tree Diversion ++ texts_in tree Instream ++ texts_in tree Zone

-- the index in its space, from 0, of the first entry that has the text as its name
abbrev pub named_at : Members → Space → List ℕ → Option ℕ
named_at tree space q = first_from (is_the_text q) 0 (texts_of tree space)
