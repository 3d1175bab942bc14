-- The rights that two basins have in common.
use Rattle.std.specs.Prelude.{◌≡◌, ℕ, ◌<◌, List, length, Option, option_map, filter_map, All}
use Rattle.basin_names.specs.Named.{right_named}
use Rattle.water_model.specs.Basin.{right_name}
use Rattle.water_model.specs.Indices.{seniors_first}
use Rattle.water_model.specs.declared.types.Basin.{Basin}
use Rattle.water_model.specs.declared.types.MonthRecord.{MonthRecord}
use Rattle.injury.specs.declared.pair.Pair.{Pair}

-- a right of the first basin and one of the second that have one name
pub record HaveOneName (first second : Basin) (r s : ℕ) : Type 0 where
  pub in_first : r < length first.rights
  pub in_second : s < length second.rights
  pub name : right_name first r ≡ right_name second s

-- a right of the first basin with the right of the second that has its name, if there is one
abbrev pub pair_of : Basin → Basin → ℕ → Option Pair
pair_of first second r = option_map (λ s. record { first = r; second = s }) (right_named second (right_name first r))

-- the rights that both basins have, in the first's order of seniority
unfoldable pub common_rights : Basin → Basin → List Pair
common_rights first second = filter_map (pair_of first second) (seniors_first first)

-- the records have deliveries of the rights of each pair
abbrev pub HaveDeliveries : List Pair → MonthRecord → MonthRecord → Type 0
HaveDeliveries pairs m n = All (λ p. (p.first < length m.delivered) × (p.second < length n.delivered)) pairs
