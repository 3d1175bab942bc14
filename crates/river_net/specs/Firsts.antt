-- First links: of all that leave a node, and of the rivers among them.
use Rattle.std.specs.Prelude.{◌≡◌, ℕ, ◌<◌, ◌≤◌, List, length, slice_index_or, Option, Some, None, if◌then◌else◌}
use Rattle.chains.specs.Chains.{AreChains, IsFirst, has_key}
use Rattle.chains.specs.declared.Chains.{Chains}
use Rattle.water_model.specs.Network.{tail_in, head_in, is_river_in}
use Rattle.water_model.specs.declared.types.Link.{Link}

-- the node that a link leaves, and the one that it leaves as a river
abbrev pub left_by : List Link → ℕ → Option ℕ
left_by links link = Some (tail_in links link)

abbrev pub left_by_river : List Link → ℕ → Option ℕ
left_by_river links link = if is_river_in links link then Some (tail_in links link) else None

-- the answer is the first link from an index on that leaves the node, or none, and the first river
abbrev pub IsNextFrom : List Link → ℕ → ℕ → Option ℕ → Type 0
IsNextFrom links node from = IsFirst (has_key (left_by links) node) from (length links)

abbrev pub IsFirstRiverFrom : List Link → ℕ → Option ℕ → Type 0
IsFirstRiverFrom links node = IsFirst (has_key (left_by_river links) node) 0 (length links)

-- for each node the first river that leaves it
pub record AreFirstRivers (nodes : ℕ) (links : List Link) (rivers : List (Option ℕ)) : Type 0 where
  pub count : length rivers ≡ nodes
  pub each : (v : ℕ) → IsFirstRiverFrom links v (slice_index_or rivers v None)

-- the ends of each link are below a number of nodes
pub record IsWithin (nodes : ℕ) (links : List Link) : Type 0 where
  pub ends : (e : ℕ) → e < length links → (tail_in links e < nodes) × (head_in links e < nodes)

-- what a graph keeps
pub record IsGraph (links : List Link) (leaving : Chains) : Type 0 where
  pub chains : AreChains (left_by links) (length links) (length leaving.first.items) leaving
  pub within : IsWithin (length leaving.first.items) links
  pub bounded_nodes : length leaving.first.items ≤ 2000
  pub bounded_links : length links ≤ 4000
