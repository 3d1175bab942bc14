-- What is at fault in a network.
use Rattle.std.specs.Prelude.{◌≡◌, ◌==◌, ℕ, List, length, Bool, not, ◌&&◌, Option, Some, None, is_none, option_map}
use Rattle.std.specs.Prelude.{position, slice_index_or, ⊤}
use Rattle.std.specs.List.{find, list_any, range_with_len}
use Rattle.std.specs.Option.{option_or}
use Rattle.water_model.specs.Network.{is_outlet_in, is_river_kind, is_on_cycle}
use Rattle.water_model.specs.declared.types.Link.{Link}
use Rattle.water_model.specs.declared.types.Node.{Node}
use Rattle.river_net.specs.declared.refused.NetRefused.{NetRefused}
use Rattle.river_net.specs.declared.refused.NetRefused.TheVariants.{SelfLink, LinkFromOutlet, NoRiver, DirectedCycle}
use Rattle.river_net.specs.declared.refused.NetRefused.TheVariants.{OutOfMemory}

-- a link from a node to itself
abbrev pub is_self_link : Link → Bool
is_self_link l = l.from == l.to

-- a link from an outlet
abbrev pub leaves_outlet : List Node → Link → Bool
leaves_outlet nodes l = is_outlet_in nodes l.from

-- a node that is no outlet and that no river leaves
abbrev pub lacks_river : List Node → List Link → ℕ → Bool
lacks_river nodes links node =
    not (is_outlet_in nodes node) && not (list_any (λ l. l.from == node && is_river_kind l.carry) links)

-- the first link or node with each fault
abbrev pub first_self_link : List Link → Option ℕ
first_self_link links = position is_self_link links

abbrev pub first_from_outlet : List Node → List Link → Option ℕ
first_from_outlet nodes links = position (leaves_outlet nodes) links

unfoldable pub first_without_river : List Node → List Link → Option ℕ
first_without_river nodes links = find (lacks_river nodes links) (range_with_len 0 (length nodes))

unfoldable pub first_on_cycle : List Node → List Link → Option ℕ
first_on_cycle nodes links = find (is_on_cycle nodes links) (range_with_len 0 (length nodes))

-- the first fault of a network
unfoldable pub net_fault : List Node → List Link → Option NetRefused
net_fault nodes links =
    option_or (option_map SelfLink (first_self_link links))
    (option_or (option_map LinkFromOutlet (first_from_outlet nodes links))
    (option_or (option_map NoRiver (first_without_river nodes links))
    (option_map DirectedCycle (first_on_cycle nodes links))))

-- a refusal names the first fault, or says that memory ran out
abbrev pub IsNetRefusal : NetRefused → List Node → List Link → Type 0
IsNetRefusal OutOfMemory nodes links = ⊤
IsNetRefusal e nodes links = net_fault nodes links ≡ Some e

-- a node that is no outlet and has none of the given first rivers
abbrev pub keeps_water : List Node → List (Option ℕ) → ℕ → Bool
keeps_water nodes rivers node = not (is_outlet_in nodes node) && is_none (slice_index_or rivers node None)
