-- The core of a short right: the nodes from which its node is reached by steps with room, so that one more unit of
-- supply at such a node could be moved to the right without taking anything from its seniors.
use Rattle.std.specs.Prelude.{◌≡◌, ℕ, ◌<◌, Bool, List, length, Option, Some, None, IsTrue}
use Rattle.water_model.specs.Lookups.{has}
use Rattle.water_model.specs.Basin.{tail_of, head_of, taking_node, instream_link}
use Rattle.water_model.specs.declared.types.Basin.{Basin}
use Rattle.water_model.specs.declared.types.MonthRecord.{MonthRecord}
use Rattle.plan_residual.specs.Residual.{can_rise, can_fall}

-- a right's node: where it takes, or the tail of the link that it is on
abbrev pub node_by_link : Basin → Option ℕ → Option ℕ → Option ℕ
node_by_link b taking None = taking
node_by_link b taking (Some link) = Some (tail_of b link)

abbrev pub node_of : Basin → ℕ → Option ℕ
node_of b right = node_by_link b (taking_node b right) (instream_link b right)

-- A set of nodes is closed backward, as seen from a right, if no step with room leads into it.
pub record IsClosedBackward (b : Basin) (m : MonthRecord) (right : ℕ) (set : List Bool) : Type 0 where
  pub forward : (e : ℕ) → e < length b.links → IsTrue (can_rise b m e) → IsTrue (has set (head_of b e)) →
      IsTrue (has set (tail_of b e))
  pub backward : (e : ℕ) → e < length b.links → IsTrue (can_fall b m right e) → IsTrue (has set (tail_of b e)) →
      IsTrue (has set (head_of b e))

-- the nodes from which a node is reached: the set that is closed backward, has the node, and is within every such set
pub record AreUpstream (b : Basin) (m : MonthRecord) (right node : ℕ) (set : List Bool) : Type 0 where
  pub one_each : length set ≡ length b.nodes
  pub holds : IsTrue (has set node)
  pub closed : IsClosedBackward b m right set
  pub least : (other : List Bool) → IsClosedBackward b m right other → IsTrue (has other node) →
      (n : ℕ) → IsTrue (has set n) → IsTrue (has other n)

-- the core of a right: the nodes from which its node is reached
pub record IsCore (b : Basin) (m : MonthRecord) (right : ℕ) (set : List Bool) : Type 0 where
  pub node : ℕ
  pub at : node_of b right ≡ Some node
  pub upstream : AreUpstream b m right node set
