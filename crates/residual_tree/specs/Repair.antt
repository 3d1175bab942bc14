-- A tree that is repaired: subtrees are freed, and then grow again on what is left.
use Rattle.std.specs.Prelude.{ℕ, ◌≡◌, ◌+◌, ◌-◌, ◌*◌, ◌%◌, ◌^◌, ◌<◌, ◌≤◌, ◌⊎◌, nat_lt, List, length, slice_index}
use Rattle.residual_tree.specs.declared.TheConstants.{ROOT}
use Rattle.finite_sums.specs.Sums.{total, when}
use Rattle.circulation.specs.Contents.{Contents, network, flow_of, arcs}
use Rattle.circulation.specs.Residual.{arc_of, start_of, end_of, room_of, opposite}
use Rattle.residual_tree.specs.Tree.{label_of, predecessor_of, IsLabeled}

-- x stands in the list at an index from `first` to below `last`
pub record OccursIn (xs : List ℕ) (first last x : ℕ) : Type 0 where
  pub place : ℕ
  pub from : first ≤ place
  pub below : place < last
  pub is : slice_index xs place ≡ x

-- how many basin nodes are labeled
abbrev pub labeled_count : ℕ → List ℕ → ℕ
labeled_count nodes labels = total nodes (λ v. when (nat_lt 0 (label_of labels v)) 1)

-- the node v is labeled by the step s from a node of lesser rank that is labeled or an orphan; the word of v has that
-- node
pub record IsLooseBranch (c : Contents) (labels : List ℕ) (orphan : ℕ → Type 0) (rank : ℕ → ℕ) (v s : ℕ) : Type 0 where
  pub arc : arc_of s < arcs c
  pub enters : end_of (network c) s ≡ v
  pub before : rank (start_of (network c) s) < rank v
  pub marked : IsLabeled labels (start_of (network c) s) ⊎ orphan (start_of (network c) s)
  pub predecessor : predecessor_of labels v ≡ start_of (network c) s % 2 ^ 30

-- a tree but for saturated steps, which may have no room; orphans, which are no longer labeled while their children
-- are; free nodes, which steps with room may enter although they are not labeled; and unscanned nodes, whose own steps
-- were not tried yet
pub record IsTreeBut (c : Contents) (labels : List ℕ) (saturated orphan free unscanned : ℕ → Type 0) : Type 0 where
  pub words : length labels ≡ c.nodes + 1
  pub root : label_of labels c.nodes ≡ ROOT
  pub rank : ℕ → ℕ
  pub branch : (v : ℕ) → v < c.nodes → IsLabeled labels v → IsLooseBranch c labels orphan rank v (label_of labels v - 1)
  pub room : (v : ℕ) → v < c.nodes → IsLabeled labels v →
      (0 < room_of (network c) (flow_of c) (label_of labels v - 1)) ⊎ saturated (label_of labels v - 1)
  pub closed : (s : ℕ) → arc_of s < arcs c → 0 < room_of (network c) (flow_of c) s →
      IsLabeled labels (start_of (network c) s) →
      IsLabeled labels (end_of (network c) s) ⊎ (free (end_of (network c) s) ⊎ unscanned (start_of (network c) s))

-- none
abbrev pub none : ℕ → Type 0
none v = ⊥

-- nodes are being freed: the steps that the scratch words from `at` on name may have no room, `size` nodes were freed,
-- and children of those from the index `done` on may still be labeled
pub record IsFreeing (c : Contents) (labels freed : List ℕ) (at last done size : ℕ) : Type 0 where
  pub tree : IsTreeBut c labels (OccursIn c.scratch at last) (OccursIn freed done size) (OccursIn freed 0 size) none
  pub order : done ≤ size
  pub places : length freed ≡ c.nodes
  pub within : (k : ℕ) → k < size → slice_index freed k < c.nodes
  pub bounded : size + labeled_count c.nodes labels ≤ c.nodes

-- this step alone
abbrev pub only : ℕ → ℕ → Type 0
only x s = s ≡ x

-- a number that no step has
abbrev pub no_step : Contents → ℕ
no_step c = 2 * arcs c

-- the tree grows, over steps with room but for the step `artificial`: freed nodes from the index `next` on may still
-- have a way in, and the steps of the nodes in the queue from the index `done` on were not tried yet
pub record IsGrowing (c : Contents) (artificial : ℕ) (labels freed queue : List ℕ) (next count done size : ℕ) : Type 0
  where
    pub tree : IsTreeBut c labels (only artificial) none (OccursIn freed next count) (OccursIn queue done size)
    pub order : done ≤ size
    pub places : length queue ≡ c.nodes
    pub within : (k : ℕ) → k < count → slice_index freed k < c.nodes
    pub marked : (k : ℕ) → k < size → (slice_index queue k < c.nodes) × IsLabeled labels (slice_index queue k)
    pub bounded : size ≤ labeled_count c.nodes labels

-- a step with room into the node, from one that is labeled
pub record IsWayIn (c : Contents) (labels : List ℕ) (v s : ℕ) : Type 0 where
  pub arc : arc_of s < arcs c
  pub enters : end_of (network c) s ≡ v
  pub marked : IsLabeled labels (start_of (network c) s)
  pub room : 0 < room_of (network c) (flow_of c) s

-- the opposite of a step is no way into the node that the step leaves
abbrev pub IsShut : Contents → List ℕ → ℕ → Type 0
IsShut c labels s = IsLabeled labels (end_of (network c) s) → room_of (network c) (flow_of c) (opposite s) ≡ 0

-- the word is one more than a way into the node, or 0 where there is none
pub record IsFoundLabel (c : Contents) (labels : List ℕ) (v word : ℕ) : Type 0 where
  pub none : word ≡ 0 → (s : ℕ) → ¬ IsWayIn c labels v s
  pub some : (s : ℕ) → word ≡ s + 1 → IsWayIn c labels v s

-- a tree of the circulation in which the steps that the scratch words from `first` to below `last` name may have no
-- room
abbrev pub IsSaturatedTree : Contents → List ℕ → ℕ → ℕ → Type 0
IsSaturatedTree c labels first last = IsTreeBut c labels (OccursIn c.scratch first last) none none none

-- a tree of the circulation in which the step `artificial` may have no room: it counts as one that has
abbrev pub HasArtificialStep : Contents → List ℕ → ℕ → Type 0
HasArtificialStep c labels artificial = IsTreeBut c labels (only artificial) none none none

-- a tree of the circulation in which a step to the head of the arc r may have no room
pub record HasSomeArtificial (c : Contents) (labels : List ℕ) (r : ℕ) : Type 0 where
  pub step : ℕ
  pub enters : end_of (network c) step ≡ slice_index c.to r
  pub tree : HasArtificialStep c labels step
