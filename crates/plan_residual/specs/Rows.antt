-- For each node the steps that leave it, as a chain of rising numbers.
use Rattle.std.specs.Prelude.{ℕ, ◌*◌, Bool, List, length, Option, Some}
use Rattle.water_model.specs.declared.types.Basin.{Basin}
use Rattle.chains.specs.Chains.{AreChains, IsFirst, has_key}
use Rattle.chains.specs.declared.Chains.{Chains}
use Rattle.plan_residual.specs.Residual.{start_of}

-- how many steps there are
abbrev pub step_count : Basin → ℕ
step_count b = 2 * length b.links

-- the node that a step leaves
abbrev pub starts_at : Basin → ℕ → Option ℕ
starts_at b step = Some (start_of b step)

-- the answer is the first step from an index on that leaves the node, or none
abbrev pub IsNextFrom : Basin → ℕ → ℕ → Option ℕ → Type 0
IsNextFrom b node from = IsFirst (has_key (starts_at b) node) from (step_count b)

-- the steps in chains by the nodes that they leave
abbrev pub AreStepRows : Basin → Chains → Type 0
AreStepRows b = AreChains (starts_at b) (step_count b) (length b.nodes)

-- what contracts see of a search: its rows, and the nodes of the core that was found last
pub record SearchSeen : Type 0 where
  pub rows : Chains
  pub core : List Bool

-- a search through the network of a basin
abbrev pub IsSearchOf : Basin → SearchSeen → Type 0
IsSearchOf b s = AreStepRows b s.rows
