-- Over which steps a node may be adopted whose own step lost its room.
use Rattle.std.specs.Prelude.{ℕ, ◌≡◌, ◌+◌, ◌-◌, ◌%◌, ◌^◌, ◌<◌, Bool, true, false, List, slice_set}
use Rattle.circulation.specs.Contents.{Contents, network, arcs}
use Rattle.circulation.specs.Residual.{arc_of, start_of}
use Rattle.residual_tree.specs.Tree.{label_of, predecessor_of, relabel, IsLabeled}
use Rattle.residual_tree.specs.Repair.{IsWayIn}

-- each node that is labeled has a step, and its word has the node that the step leaves
abbrev pub HasSteps : Contents → List ℕ → Type 0
HasSteps c labels = (u : ℕ) → u < c.nodes → IsLabeled labels u →
    (arc_of (label_of labels u - 1) < arcs c) ×
    (predecessor_of labels u ≡ start_of (network c) (label_of labels u - 1) % 2 ^ 30)

-- the tree leads to the node u past the node v: through nodes that are `on`, of which v is none
pub record IsClear (c : Contents) (labels : List ℕ) (v u : ℕ) : Type 0 where
  pub on : ℕ → Bool
  pub here : on u ≡ true
  pub past : on v ≡ false
  pub before : (x : ℕ) → x < c.nodes → on x ≡ true → on (start_of (network c) (label_of labels x - 1)) ≡ true

-- the node v is adopted over another step, and no node was freed
pub record IsAdopted (c : Contents) (labels labels' freed freed' : List ℕ) (size size' v : ℕ) : Type 0 where
  pub step : ℕ
  pub in_step : IsWayIn c labels v step
  pub clear : IsClear c labels v (start_of (network c) step)
  pub words : labels' ≡ relabel labels v (step + 1) (start_of (network c) step)
  pub same : freed' ≡ freed
  pub none : size' ≡ size

-- the node v was freed
pub record IsFreedNode (labels labels' freed freed' : List ℕ) (size size' v : ℕ) : Type 0 where
  pub more : size' ≡ size + 1
  pub words : labels' ≡ relabel labels v 0 0
  pub last : freed' ≡ slice_set freed size v
