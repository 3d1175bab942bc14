-- Laws over the definitions.
use Rattle.std.specs.Prelude.{◌≡◌, ◌↔◌, ℕ, ◌≤◌, ◌^◌, List, length, slice_index, None, All}
use Rattle.finite_sums.specs.Sums.{total}
use Rattle.water_model.specs.Network.{HasNodes, IsSoundNetwork}
use Rattle.water_model.specs.Plans.{IsPlan}
use Rattle.water_model.specs.RunOfRiver.{IsRunOfRiver}
use Rattle.water_model.specs.Valid.{IsValidBasin}
use Rattle.water_text.specs.declared.month.Month.{Month}
use Rattle.water_model.specs.declared.types.Basin.{Basin}
use Rattle.water_model.specs.declared.types.Link.{Link}
use Rattle.water_model.specs.declared.types.Node.{Node}
use Rattle.water_model.specs.declared.types.Plan.{Plan}
use Rattle.river_net.specs.NetFaults.{net_fault}

-- The run of the river of a valid basin is a plan, in any month and for any wants, where the supplies sum to no more
-- than a river carries.
abbrev pub RunOfRiverIsPlan : Type 0
RunOfRiverIsPlan =
    (b : Basin) (month : Month) (supply want : List ℕ) (p : Plan) → IsValidBasin b →
    total (length b.nodes) (λ n. slice_index supply n) ≤ 10 ^ 15 →
    IsRunOfRiver b supply p → IsPlan b month supply want p

-- Nodes and links that name nodes are a sound network exactly where they have no first fault.
abbrev pub SoundNetworksHaveNoFault : Type 0
SoundNetworksHaveNoFault =
    (nodes : List Node) (links : List Link) → All (λ l. HasNodes nodes l) links →
    IsSoundNetwork nodes links ↔ (net_fault nodes links ≡ None)
