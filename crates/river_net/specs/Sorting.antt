-- How nodes get their positions in an order in which each link runs forward.
use Rattle.std.specs.Prelude.{◌≡◌, ◌⊎◌, ℕ, ◌<◌, ◌≤◌, ◌==◌, ◌&&◌, ◌||◌, Bool, true, false, not, nat_lt, List, length}
use Rattle.std.specs.Prelude.{slice_index, Option, Some, None, IfSome}
use Rattle.chains.specs.Chains.{is_before}
use Rattle.finite_sums.specs.Sums.{count_where}
use Rattle.water_model.specs.Network.{tail_in, head_in}
use Rattle.river_net.specs.GraphView.{GraphView}

-- how many of the links before the index `bound` lead to each node
pub record AreEntering (g : GraphView) (bound : ℕ) (counts : List ℕ) : Type 0 where
  pub count : length counts ≡ g.nodes
  pub each : (v : ℕ) → v < g.nodes → slice_index counts v ≡ count_where bound (λ e. head_in g.links e == v)

-- the nodes of the order have their positions in it, after all nodes from which links lead to them; any other node has
-- the position `nodes`
pub record IsPlacing (g : GraphView) (order : List ℕ) (position : ℕ → ℕ) : Type 0 where
  pub each : (v : ℕ) → v < g.nodes →
      (position v ≡ g.nodes) ⊎ ((position v < length order) × (slice_index order (position v) ≡ v))
  pub placed : (k : ℕ) → k < length order → (slice_index order k < g.nodes) × (position (slice_index order k) ≡ k)
  pub forward : (e : ℕ) → e < length g.links → position (head_in g.links e) < length order →
      position (tail_in g.links e) < position (head_in g.links e)
  pub number : count_where g.nodes (λ v. nat_lt (position v) g.nodes) ≡ length order

-- each node waits for the links that lead to it and are not handled; of the nodes below a bound those that wait for
-- none have positions in the order
pub record IsSorting (g : GraphView) (order waits : List ℕ) (position : ℕ → ℕ) (handled : ℕ → Bool) (bound : ℕ) : Type 0
  where
    pub placing : IsPlacing g order position
    pub count : length waits ≡ g.nodes
    pub waiting : (v : ℕ) → v < g.nodes →
        slice_index waits v ≡ count_where (length g.links) (λ e. head_in g.links e == v && not (handled e))
    pub free : (v : ℕ) → v < g.nodes → v < bound → slice_index waits v ≡ 0 → position v < length order
    pub idle : (v : ℕ) → v < g.nodes → position v < length order → (v < bound) × (slice_index waits v ≡ 0)
    pub tails : (e : ℕ) → e < length g.links → handled e ≡ true → position (tail_in g.links e) < length order

-- no link is handled, and the nodes below a bound that no link leads to have positions in the order
pub record HasSources (g : GraphView) (order waits : List ℕ) (bound : ℕ) : Type 0 where
  pub position : ℕ → ℕ
  pub sorting : IsSorting g order waits position (λ e. false) bound

-- the links that leave the first `done` nodes of the order are handled
pub record IsReleased (g : GraphView) (order waits : List ℕ) (done : ℕ) : Type 0 where
  pub position : ℕ → ℕ
  pub handled : ℕ → Bool
  pub sorting : IsSorting g order waits position handled g.nodes
  pub within : done ≤ length order
  pub which : (e : ℕ) → e < length g.links → handled e ≡ nat_lt (position (tail_in g.links e)) done

-- so are the links before `next` that leave the node after them
pub record IsReleasing (g : GraphView) (order waits : List ℕ) (done node : ℕ) (next : Option ℕ) : Type 0 where
  pub position : ℕ → ℕ
  pub handled : ℕ → Bool
  pub sorting : IsSorting g order waits position handled g.nodes
  pub within : done < length order
  pub at : slice_index order done ≡ node
  pub leaves : IfSome next (λ e. (e < length g.links) × (tail_in g.links e ≡ node))
  pub which : (e : ℕ) → e < length g.links →
      handled e ≡ (nat_lt (position (tail_in g.links e)) done ||
      (position (tail_in g.links e) == done && is_before next e))
