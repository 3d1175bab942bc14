-- The nodes that a search has seen, in the order in which it saw them.
use Rattle.std.specs.Prelude.{◌≡◌, ◌≢◌, ℕ, ◌<◌, ◌≤◌, ◌⊎◌, Bool, true, List, length, slice_index}
use Rattle.finite_sums.specs.Sums.{count_where}
use Rattle.water_model.specs.Lookups.{has}
use Rattle.water_model.specs.declared.types.Basin.{Basin}

-- what contracts see of a queue: which nodes were seen, a list that begins with them, and how many they are
pub record QueueView : Type 0 where
  pub seen : List Bool
  pub nodes : List ℕ
  pub size : ℕ

-- the first entries of the list are the nodes that were seen, each once
pub record IsQueue (q : QueueView) : Type 0 where
  pub sized : length q.nodes ≡ length q.seen
  pub bounded : length q.seen ≤ 2000
  pub number : count_where (length q.seen) (λ v. has q.seen v) ≡ q.size
  pub queued : (j : ℕ) → j < q.size → has q.seen (slice_index q.nodes j) ≡ true
  pub each : (v : ℕ) → has q.seen v ≡ true → (j : ℕ) × (j < q.size) × (slice_index q.nodes j ≡ v)
  pub once : (i j : ℕ) → i < j → j < q.size → slice_index q.nodes i ≢ slice_index q.nodes j

-- a queue of nodes of a basin
pub record IsQueueIn (b : Basin) (q : QueueView) : Type 0 where
  pub in_queue : IsQueue q
  pub count : length q.seen ≡ length b.nodes

-- of so many nodes none was seen
pub record IsEmpty (nodes : ℕ) (q : QueueView) : Type 0 where
  pub in_queue : IsQueue q
  pub count : length q.seen ≡ nodes
  pub none : q.size ≡ 0

-- nodes may have been added after those that were there
pub record Extends (q q' : QueueView) : Type 0 where
  pub kept : (v : ℕ) → has q.seen v ≡ true → has q'.seen v ≡ true
  pub prefix : (j : ℕ) → j < q.size → slice_index q'.nodes j ≡ slice_index q.nodes j
  pub larger : q.size ≤ q'.size

-- the node was added, or was there
pub record IsVisit (q q' : QueueView) (node : ℕ) : Type 0 where
  pub in_queue : IsQueue q'
  pub count : length q'.seen ≡ length q.seen
  pub extends : Extends q q'
  pub on : has q'.seen node ≡ true
  pub only : (v : ℕ) → has q'.seen v ≡ true → (v ≡ node) ⊎ (has q.seen v ≡ true)
