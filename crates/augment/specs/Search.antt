-- A search over the residual network, by the words in which it keeps what it reached.
use Rattle.std.specs.Prelude.{ℕ, ◌≡◌, ◌≢◌, ◌+◌, ◌-◌, ◌*◌, ◌<◌, ◌≤◌, nat_lt, slice_index, slice_set}
use Rattle.finite_sums.specs.Sums.{total, when}
use Rattle.circulation.specs.Network.{Network}
use Rattle.circulation.specs.Contents.{Contents, network, flow_of, SameButScratch}
use Rattle.circulation.specs.Residual.{arc_of, start_of, end_of, room_of}
use Rattle.augment.specs.Raised.{position_of}

-- the node with the index k among those reached
abbrev pub node_at : Contents → ℕ → ℕ
node_at c k = slice_index c.scratch (c.nodes + 1 + k)

-- the step by which it was reached
abbrev pub step_at : Contents → ℕ → ℕ
step_at c k = slice_index c.scratch (2 * c.nodes + 2 + k)

-- the contents after one more node was reached by a step
abbrev pub with_node : Contents → ℕ → ℕ → ℕ → Contents
with_node c size node step =
    let position = slice_set c.scratch node (size + 1) in
    let placed = slice_set position (c.nodes + 1 + size) node in
    record c { scratch = slice_set placed (2 * c.nodes + 2 + size) step }

-- the k-th node is reached by a step with room from one before it, which does not go over r
pub record IsBranch (w : Network) (g : ℕ → ℕ) (r least : ℕ) (position : ℕ → ℕ) (k s v : ℕ) : Type 0 where
  pub arc : arc_of s < w.arcs
  pub other : arc_of s ≢ r
  pub enters : end_of w s ≡ v
  pub marked : 0 < position (start_of w s)
  pub before : position (start_of w s) ≤ k
  pub room : least ≤ room_of w g s

-- the nodes that were reached, in order
pub record IsTree (w : Network) (g : ℕ → ℕ) (r least : ℕ) (position node step : ℕ → ℕ) (size : ℕ) : Type 0 where
  pub some : 0 < size
  pub root : node 0 ≡ w.to r
  pub counted : size ≡ total (w.nodes + 1) (λ v. when (nat_lt 0 (position v)) 1)
  pub placed : (k : ℕ) → k < size → (node k ≤ w.nodes) × (position (node k) ≡ k + 1)
  pub marked : (v : ℕ) → v ≤ w.nodes → 0 < position v → (position v ≤ size) × (node (position v - 1) ≡ v)
  pub grown : (k : ℕ) → 0 < k → k < size → IsBranch w g r least position k (step k) (node k)

-- the step goes over r, or lacks room, or leads to a node that was reached
abbrev pub IsTried : Network → (ℕ → ℕ) → ℕ → ℕ → (ℕ → ℕ) → ℕ → Type 0
IsTried w g r least position s = arc_of s ≢ r → least ≤ room_of w g s → 0 < position (end_of w s)

-- every arc that leaves the node, with room, leads to a node that was reached; and the same for arcs that enter it,
-- backward
pub record IsExpanded (w : Network) (g : ℕ → ℕ) (r least : ℕ) (position : ℕ → ℕ) (v : ℕ) : Type 0 where
  pub out : (a : ℕ) → a < w.arcs → w.from a ≡ v → a ≢ r → g a + least ≤ w.upper a → 0 < position (w.to a)
  pub into : (a : ℕ) → a < w.arcs → w.to a ≡ v → a ≢ r → w.lower a + least ≤ g a → 0 < position (w.from a)

-- nothing more can be reached
abbrev pub IsClosed : Network → (ℕ → ℕ) → ℕ → ℕ → (ℕ → ℕ) → Type 0
IsClosed w g r least position = (v : ℕ) → v ≤ w.nodes → 0 < position v → IsExpanded w g r least position v

-- nodes may have been added, each after those that were there
pub record Grows (nodes : ℕ) (old new : ℕ → ℕ) (size more : ℕ) : Type 0 where
  pub same : (v : ℕ) → v ≤ nodes → 0 < old v → new v ≡ old v
  pub fresh : (v : ℕ) → v ≤ nodes → old v ≡ 0 → 0 < new v → size < new v
  pub larger : size ≤ more

-- the scratch words hold such a tree
abbrev pub HasTree : Contents → ℕ → ℕ → ℕ → Type 0
HasTree c r least size = IsTree (network c) (flow_of c) r least (position_of c) (node_at c) (step_at c) size

-- nodes may have been added to the tree, and nothing else changed
pub record IsVisitedBy (old new : Contents) (r least size more : ℕ) : Type 0 where
  pub rest : SameButScratch old new
  pub tree : HasTree new r least more
  pub grows : Grows old.nodes (position_of old) (position_of new) size more
