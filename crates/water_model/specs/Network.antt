-- The network of nodes and links: where links lead, and what a sound network keeps.
use Rattle.std.specs.Prelude.{◌≡◌, ℕ, zero, suc, ◌<◌, Bool, true, false, ◌&&◌, ◌||◌, List, length, ◌==◌}
use Rattle.std.specs.List.{list_any}
use Rattle.water_model.specs.Lookups.{of_entry}
use Rattle.water_model.specs.declared.types.Carry.{Carry}
use Rattle.water_model.specs.declared.types.Carry.TheVariants.{River, Canal}
use Rattle.water_model.specs.declared.types.Link.{Link}
use Rattle.water_model.specs.declared.types.Node.{Node}

-- where a link begins and ends
abbrev pub tail_in : List Link → ℕ → ℕ
tail_in links link = of_entry links link (λ l. l.from) 0

abbrev pub head_in : List Link → ℕ → ℕ
head_in links link = of_entry links link (λ l. l.to) 0

-- whether a link is a river, which carries any amount, and not a canal
abbrev pub is_river_kind : Carry → Bool
is_river_kind River = true
is_river_kind (Canal per_day shut) = false

abbrev pub is_river_in : List Link → ℕ → Bool
is_river_in links link = of_entry links link (λ l. is_river_kind l.carry) false

-- whether water that reaches the node leaves the basin
abbrev pub is_outlet_in : List Node → ℕ → Bool
is_outlet_in nodes node = of_entry nodes node (λ n. n.outlet) false

-- whether a walk of at least one link and at most k leads from a node to another
unfoldable pub walks : List Link → ℕ → ℕ → ℕ → Bool
walks links zero from to = false
walks links (suc k) from to = list_any (λ l. l.from == from && (l.to == to || walks links k l.to to)) links

-- whether a node reaches itself. A walk back to it of more links than there are nodes passes some node twice and
-- contains a shorter one, so walks of at most that many links are enough
abbrev pub is_on_cycle : List Node → List Link → ℕ → Bool
is_on_cycle nodes links node = walks links (length nodes) node node

-- a river leads on from the node
pub record HasRiverOut (links : List Link) (node : ℕ) : Type 0 where
  pub link : ℕ
  pub in_range : link < length links
  pub tail : tail_in links link ≡ node
  pub river : is_river_in links link ≡ true

-- no link leaves an outlet, a river leaves every other node, and no node reaches itself
pub record IsSoundNetwork (nodes : List Node) (links : List Link) : Type 0 where
  pub outlets_end : (e : ℕ) → e < length links → is_outlet_in nodes (tail_in links e) ≡ false
  pub rivers : (v : ℕ) → v < length nodes → is_outlet_in nodes v ≡ false → HasRiverOut links v
  pub acyclic : (v : ℕ) → v < length nodes → is_on_cycle nodes links v ≡ false

-- a numbering of the nodes in which each link leads to a greater number
pub record IsForward (links : List Link) (rank : ℕ → ℕ) : Type 0 where
  pub runs : (e : ℕ) → e < length links → rank (tail_in links e) < rank (head_in links e)

-- the ends of a link are nodes
pub record HasNodes (nodes : List Node) (l : Link) : Type 0 where
  pub from : l.from < length nodes
  pub to : l.to < length nodes
