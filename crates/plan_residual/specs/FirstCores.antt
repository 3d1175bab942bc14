-- At each node the first core: that of the most senior short right whose core holds the node.
use Rattle.std.specs.Prelude.{◌≡◌, ℕ, ◌<◌, Bool, List, length, slice_index_or, Option, Some, None, IsTrue}
use Rattle.water_model.specs.Lookups.{has}
use Rattle.water_model.specs.Basin.{is_senior}
use Rattle.water_model.specs.History.{IsShort}
use Rattle.water_model.specs.declared.types.Basin.{Basin}
use Rattle.water_model.specs.declared.types.MonthRecord.{MonthRecord}
use Rattle.plan_residual.specs.Core.{IsCore}

-- a short right whose core holds a node
pub record HasCoreAt (b : Basin) (m : MonthRecord) (node right : ℕ) : Type 0 where
  pub in_range : right < length b.rights
  pub short : IsShort m right
  pub core : List Bool
  pub is_core : IsCore b m right core
  pub here : IsTrue (has core node)

-- the most senior such right
pub record IsFirstCoreAt (b : Basin) (m : MonthRecord) (node right : ℕ) : Type 0 where
  pub has_core : HasCoreAt b m node right
  pub first : (s : ℕ) → IsTrue (is_senior b s right) → HasCoreAt b m node s → ⊥

-- no core of a short right holds the node
abbrev pub IsInNoCore : Basin → MonthRecord → ℕ → Type 0
IsInNoCore b m node = (s : ℕ) → HasCoreAt b m node s → ⊥

abbrev pub IsFirstCoreOrNone : Basin → MonthRecord → ℕ → Option ℕ → Type 0
IsFirstCoreOrNone b m node None = IsInNoCore b m node
IsFirstCoreOrNone b m node (Some right) = IsFirstCoreAt b m node right

-- for each node that right, or none
pub record AreFirstCores (b : Basin) (m : MonthRecord) (firsts : List (Option ℕ)) : Type 0 where
  pub one_each : length firsts ≡ length b.nodes
  pub each : (n : ℕ) → n < length b.nodes → IsFirstCoreOrNone b m n (slice_index_or firsts n None)
