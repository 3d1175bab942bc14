-- A search along links for a way back to the node where it starts.
use Rattle.std.specs.Prelude.{◌≡◌, ℕ, ◌+◌, ◌<◌, Bool, true, List, length, slice_index, Option, IfSome}
use Rattle.finite_sums.specs.Sums.{count_where}
use Rattle.water_model.specs.Lookups.{has}
use Rattle.water_model.specs.Network.{walks, tail_in, head_in}
use Rattle.river_net.specs.GraphView.{GraphView}
use Rattle.chains.specs.Chains.{is_before}

-- whether a walk leads from a node back to it
abbrev pub reaches_itself : GraphView → ℕ → Bool
reaches_itself g node = walks g.links g.nodes node node

-- the nodes that were seen stand in a queue, each once, and each link that leaves one ends a walk from the start
pub record IsSearch (g : GraphView) (start : ℕ) (seen : List Bool) (queue : List ℕ) : Type 0 where
  pub count : length seen ≡ g.nodes
  pub start_seen : has seen start ≡ true
  pub number : count_where g.nodes (λ v. has seen v) ≡ length queue
  pub queued : (j : ℕ) → j < length queue → slice_index queue j < g.nodes
  pub each : (v : ℕ) → v < g.nodes → has seen v ≡ true → (j : ℕ) × (j < length queue) × (slice_index queue j ≡ v)
  pub reached : (j e : ℕ) → j < length queue → e < length g.links → tail_in g.links e ≡ slice_index queue j →
      walks g.links (j + 1) start (head_in g.links e) ≡ true

-- the links from the first `done` nodes of the queue were followed, and none led to the start
pub record IsExpanded (g : GraphView) (start : ℕ) (seen : List Bool) (queue : List ℕ) (done : ℕ) : Type 0 where
  pub search : IsSearch g start seen queue
  pub closed : (j e : ℕ) → j < done → e < length g.links → tail_in g.links e ≡ slice_index queue j →
      (has seen (head_in g.links e) ≡ true) × (head_in g.links e ≡ start → ⊥)

-- so were the links before `next` that leave the node after them
pub record IsExpanding (g : GraphView) (start : ℕ) (seen : List Bool) (queue : List ℕ) (done node : ℕ)
    (next : Option ℕ) : Type 0 where
  pub expanded : IsExpanded g start seen queue done
  pub within : done < length queue
  pub at : slice_index queue done ≡ node
  pub leaves : IfSome next (λ e. (e < length g.links) × (tail_in g.links e ≡ node))
  pub followed : (e : ℕ) → e < length g.links → tail_in g.links e ≡ node → is_before next e ≡ true →
      (has seen (head_in g.links e) ≡ true) × (head_in g.links e ≡ start → ⊥)
