-- A search breadth first, from nodes on along steps or against them.
use Rattle.std.specs.Prelude.{◌≡◌, ℕ, ◌<◌, ◌⊎◌, Bool, true, false, List, length, slice_index}
use Rattle.std.specs.Prelude.{Option, Some, IsTrue}
use Rattle.water_model.specs.Lookups.{has}
use Rattle.water_model.specs.Basin.{head_of, instream_link, is_senior}
use Rattle.water_model.specs.Cuts.{takes_within}
use Rattle.water_model.specs.declared.types.Basin.{Basin}
use Rattle.water_model.specs.declared.types.MonthRecord.{MonthRecord}
use Rattle.plan_residual.specs.declared.steps.Direction.{Direction}
use Rattle.plan_residual.specs.declared.steps.Direction.TheVariants.{FromSources, ToRight}
use Rattle.plan_residual.specs.Residual.{start_of, end_of, has_room, opposite}
use Rattle.plan_residual.specs.Rows.{step_count}
use Rattle.plan_residual.specs.Queue.{QueueView, IsQueue, Extends}

-- the step whose room lets a search go on over a step
abbrev pub asked : Direction → ℕ → ℕ
asked FromSources step = step
asked ToRight step = opposite step

-- a step over which the search may not go, or one to a node that was seen
abbrev pub IsFollowed : Basin → MonthRecord → ℕ → Direction → List Bool → ℕ → Type 0
IsFollowed b m right direction seen step =
    has_room b m right (asked direction step) ≡ true → has seen (end_of b step) ≡ true

-- the steps from the first nodes of the queue were followed
abbrev pub AreFollowed : Basin → MonthRecord → ℕ → Direction → QueueView → ℕ → Type 0
AreFollowed b m right direction q done = (j s : ℕ) → j < done → s < step_count b →
    start_of b s ≡ slice_index q.nodes j → IsFollowed b m right direction q.seen s

-- no search goes on from a set
pub record IsClosedAlong (b : Basin) (m : MonthRecord) (right : ℕ) (direction : Direction) (set : List Bool) : Type 0
  where
    pub steps : (s : ℕ) → s < step_count b → has set (start_of b s) ≡ true → IsFollowed b m right direction set s

-- the nodes that were added are in every set from which no search goes on and that has those that were there
pub record HasGrown (b : Basin) (m : MonthRecord) (right : ℕ) (direction : Direction) (q q' : QueueView) : Type 0 where
  pub in_queue : IsQueue q'
  pub count : length q'.seen ≡ length q.seen
  pub extends : Extends q q'
  pub least : (other : List Bool) → IsClosedAlong b m right direction other →
      ((n : ℕ) → has q.seen n ≡ true → has other n ≡ true) → (n : ℕ) → has q'.seen n ≡ true → has other n ≡ true

-- the parts of a closed set that no step leads to
abbrev pub HasOwn : Basin → ℕ → List Bool → Type 0
HasOwn b right set = (e : ℕ) → e < length b.links → instream_link b right ≡ Some e → IsTrue (has set (head_of b e))

abbrev pub HasOutlets : MonthRecord → ℕ → List Bool → Type 0
HasOutlets m bound set = (n : ℕ) → n < bound → 0 < slice_index m.plan.out n → IsTrue (has set n)

abbrev pub HasJuniors : Basin → MonthRecord → ℕ → ℕ → List Bool → Type 0
HasJuniors b m right bound set = (s : ℕ) → s < bound → IsTrue (is_senior b right s) → 0 < slice_index m.plan.take s →
    IsTrue (takes_within b set s)

-- a set that is closed, but for the end of the right's own link
pub record IsClosedApart (b : Basin) (m : MonthRecord) (right : ℕ) (set : List Bool) : Type 0 where
  pub outlets : HasOutlets m (length b.nodes) set
  pub juniors : HasJuniors b m right (length b.rights) set
  pub along : IsClosedAlong b m right FromSources set

-- the least such set
pub record AreReachedApart (b : Basin) (m : MonthRecord) (right : ℕ) (set : List Bool) : Type 0 where
  pub one_each : length set ≡ length b.nodes
  pub closed : IsClosedApart b m right set
  pub least : (other : List Bool) → IsClosedApart b m right other → (n : ℕ) → has set n ≡ true → has other n ≡ true

-- the nodes that were seen are in every such set
pub record IsReaching (b : Basin) (m : MonthRecord) (right : ℕ) (q : QueueView) : Type 0 where
  pub in_queue : IsQueue q
  pub count : length q.seen ≡ length b.nodes
  pub least : (other : List Bool) → IsClosedApart b m right other → (n : ℕ) → has q.seen n ≡ true → has other n ≡ true

-- so are those that were added
pub record ReachesOn (b : Basin) (m : MonthRecord) (right : ℕ) (q q' : QueueView) : Type 0 where
  pub reaching : IsReaching b m right q'
  pub extends : Extends q q'

-- the end of the right's own link was added, or was there, or the right is on no link
pub record IsOwnVisit (b : Basin) (right : ℕ) (q q' : QueueView) : Type 0 where
  pub in_queue : IsQueue q'
  pub count : length q'.seen ≡ length q.seen
  pub extends : Extends q q'
  pub own : HasOwn b right q'.seen
  pub only : (v : ℕ) → has q'.seen v ≡ true → ((e : ℕ) × (e < length b.links) × (instream_link b right ≡ Some e)
      × (head_of b e ≡ v)) ⊎ (has q.seen v ≡ true)

-- each node was seen or is in a set, or some node neither was nor is
abbrev pub Covers : Bool → List Bool → List Bool → ℕ → Type 0
Covers true seen set nodes = (n : ℕ) → n < nodes → (has seen n ≡ true) ⊎ (has set n ≡ true)
Covers false seen set nodes = (n : ℕ) × (n < nodes) × (has seen n ≡ false) × (has set n ≡ false)

-- there is room for each node
pub record HasRoom (first : List (Option ℕ)) (queue core : QueueView) : Type 0 where
  pub in_queue : IsQueue queue
  pub in_core : IsQueue core
  pub for_queue : length queue.seen ≡ length first
  pub for_core : length core.seen ≡ length first
