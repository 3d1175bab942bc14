-- What a network says of its nodes and links.
use Rattle.std.specs.Prelude.{◌≡◌, ℕ, ◌<◌, true, false, List, length, slice_index, slice_index_or, Option, Some, None}
use Rattle.std.specs.Prelude.{All}
use Rattle.finite_sums.specs.Sums.{total}
use Rattle.water_model.specs.Network.{tail_in, head_in, is_outlet_in, HasNodes, IsForward, IsSoundNetwork}
use Rattle.water_model.specs.RunOfRiver.{IsFirstRiver}
use Rattle.water_model.specs.declared.types.Link.{Link}
use Rattle.water_model.specs.declared.types.Node.{Node}
use Rattle.river_net.specs.NetView.{NetView}

-- the order has every node once, each at its position, and each link leads from a node to one with a greater position
pub record IsRunningOrder (nodes : List Node) (links : List Link) (order : List ℕ) : Type 0 where
  pub count : length order ≡ length nodes
  pub position : ℕ → ℕ
  pub below : (i : ℕ) → i < length nodes → slice_index order i < length nodes
  pub placed : (i : ℕ) → i < length nodes → position (slice_index order i) ≡ i
  pub in_range : (v : ℕ) → v < length nodes → position v < length nodes
  pub each : (v : ℕ) → v < length nodes → slice_index order (position v) ≡ v
  pub forward : IsForward links position

-- the first river that leaves a node, or none at an outlet
abbrev pub IsRiverOf : List Node → List Link → ℕ → Option ℕ → Type 0
IsRiverOf nodes links node None = is_outlet_in nodes node ≡ true
IsRiverOf nodes links node (Some link) =
    (is_outlet_in nodes node ≡ false) × IsFirstRiver links link × (tail_in links link ≡ node)

-- the network of nodes and links, whose ends are nodes
pub record IsNet (nodes : List Node) (links : List Link) (net : NetView) : Type 0 where
  pub ends : All (λ l. HasNodes nodes l) links
  pub run : IsRunningOrder nodes links net.order
  pub river_count : length net.rivers ≡ length nodes
  pub river : (v : ℕ) → v < length nodes → IsRiverOf nodes links v (slice_index_or net.rivers v None)
  pub head_count : length net.heads ≡ length links
  pub head : (e : ℕ) → e < length links → slice_index net.heads e ≡ head_in links e

-- it is the network of some nodes and links that are sound
pub record IsNetOfSome (net : NetView) : Type 0 where
  pub nodes : List Node
  pub links : List Link
  pub is_net : IsNet nodes links net
  pub sound : IsSoundNetwork nodes links

-- the sum of a list of amounts
abbrev pub total_of : List ℕ → ℕ
total_of amounts = total (length amounts) (λ k. slice_index amounts k)
