-- Whose the next unit of water at a node is, what it changes, and for whom a right is curtailed.
use Rattle.std.specs.Prelude.{◌≡◌, ◌≢◌, ℕ, ◌+◌, ◌<◌, List, length, slice_index, slice_index_or, IsTrue}
use Rattle.std.specs.Prelude.{Option, Some, None}
use Rattle.water_model.specs.Basin.{taking_node, is_senior}
use Rattle.water_model.specs.Plans.{IsPlan, delivery}
use Rattle.duality.specs.Laws.{ServesSeniors}
use Rattle.water_model.specs.declared.types.Basin.{Basin}
use Rattle.water_model.specs.declared.types.MonthRecord.{MonthRecord}
use Rattle.water_model.specs.declared.types.Plan.{Plan}
use Rattle.next_unit.specs.Core.{one_more}

-- a plan of the month, but for its supply, that delivers at least as much to each senior of a right, and to the right
-- one more unit
pub record HelpsRight (b : Basin) (m : MonthRecord) (supply : List ℕ) (right : ℕ) : Type 0 where
  pub plan : Plan
  pub is_plan : IsPlan b m.month supply m.want plan
  pub serves : ServesSeniors b m.delivered m.want plan right
  pub more : delivery b m.want plan right ≡ slice_index m.delivered right + 1

-- the right whose one more unit of supply at a node would be: the most senior that it would help
pub record IsNextAt (b : Basin) (m : MonthRecord) (node right : ℕ) : Type 0 where
  pub in_range : right < length b.rights
  pub helps : HelpsRight b m (one_more m.supply node) right
  pub first : (s : ℕ) → s < length b.rights → IsTrue (is_senior b s right) →
      HelpsRight b m (one_more m.supply node) s → ⊥

-- it would help nobody
abbrev pub IsFreeAt : Basin → MonthRecord → ℕ → Type 0
IsFreeAt b m node = (s : ℕ) → s < length b.rights → HelpsRight b m (one_more m.supply node) s → ⊥

abbrev pub IsNextOrFree : Basin → MonthRecord → ℕ → Option ℕ → Type 0
IsNextOrFree b m node None = IsFreeAt b m node
IsNextOrFree b m node (Some right) = IsNextAt b m node right

-- for each node the right whose it would be, or none
pub record AreNext (b : Basin) (m : MonthRecord) (next : List (Option ℕ)) : Type 0 where
  pub one_each : length next ≡ length b.nodes
  pub each : (n : ℕ) → n < length b.nodes → IsNextOrFree b m n (slice_index_or next n None)

-- a plan delivers to each senior of a right what it got
abbrev pub SeniorsGetSame : Basin → MonthRecord → Plan → ℕ → Type 0
SeniorsGetSame b m q right =
    (s : ℕ) → s < length b.rights → IsTrue (is_senior b s right) → delivery b m.want q s ≡ slice_index m.delivered s

-- and to the right one more unit
pub record GivesOneMore (b : Basin) (m : MonthRecord) (q : Plan) (right : ℕ) : Type 0 where
  pub seniors : SeniorsGetSame b m q right
  pub more : delivery b m.want q right ≡ slice_index m.delivered right + 1

-- the most senior right that is delivered otherwise by a plan; its juniors may gain or lose
pub record IsFirstChanged (b : Basin) (m : MonthRecord) (q : Plan) (right : ℕ) : Type 0 where
  pub in_range : right < length b.rights
  pub changed : delivery b m.want q right ≢ slice_index m.delivered right
  pub seniors : SeniorsGetSame b m q right

-- A diversion or zone that wants water is curtailed for the right to which one more unit at its node would go, if that
-- right is senior to it: whatever arrives at its headgate has to go by.
pub record IsCurtailedFor (b : Basin) (m : MonthRecord) (right caller : ℕ) : Type 0 where
  pub in_range : right < length b.rights
  pub wants : 0 < slice_index m.want right
  pub node : ℕ
  pub at : taking_node b right ≡ Some node
  pub senior : IsTrue (is_senior b caller right)
  pub next : IsNextAt b m node caller
