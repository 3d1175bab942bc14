-- The tree of the nodes to which steps with room lead from the outside, by a word for each node: its label, and above
-- that its predecessor.
use Rattle.std.specs.Prelude.{ℕ, ◌≡◌, ◌+◌, ◌-◌, ◌*◌, ◌/◌, ◌%◌, ◌^◌, ◌<◌, ◌==◌, ◌&&◌, nat_lt, Bool, List, length}
use Rattle.std.specs.Prelude.{slice_index, slice_set}
use Rattle.residual_tree.specs.declared.TheConstants.{ROOT}
use Rattle.circulation.specs.Contents.{Contents, network, flow_of, arcs}
use Rattle.circulation.specs.Residual.{arc_of, start_of, end_of, room_of}

-- the label of a node: 0 where it is unlabeled, else one more than the step by which it is labeled, or ROOT for the
-- outside
unfoldable pub label_of : List ℕ → ℕ → ℕ
label_of labels v = slice_index labels v % 2 ^ 34

-- what is kept of a node's predecessor, the node that its step leaves: the remainder of the number by 2 ^ 30
unfoldable pub predecessor_of : List ℕ → ℕ → ℕ
predecessor_of labels v = slice_index labels v / 2 ^ 34

-- the words after a node got a label and a predecessor
unfoldable pub relabel : List ℕ → ℕ → ℕ → ℕ → List ℕ
relabel labels v label start = slice_set labels v (label + start % 2 ^ 30 * 2 ^ 34)

-- the node is labeled
abbrev pub IsLabeled : List ℕ → ℕ → Type 0
IsLabeled labels v = 0 < label_of labels v

-- the node v is labeled by the step s, which has room, from a node of lesser rank that is labeled; the word of v has
-- that node
pub record IsBranch (c : Contents) (labels : List ℕ) (rank : ℕ → ℕ) (v s : ℕ) : Type 0 where
  pub arc : arc_of s < arcs c
  pub enters : end_of (network c) s ≡ v
  pub marked : IsLabeled labels (start_of (network c) s)
  pub before : rank (start_of (network c) s) < rank v
  pub room : 0 < room_of (network c) (flow_of c) s
  pub predecessor : predecessor_of labels v ≡ start_of (network c) s % 2 ^ 30

-- each node that is labeled has its branch, so that the tree leads to it from the outside; and no step with room leads
-- from a node that is labeled to an unlabeled one
pub record IsResidualTree (c : Contents) (labels : List ℕ) : Type 0 where
  pub words : length labels ≡ c.nodes + 1
  pub root : label_of labels c.nodes ≡ ROOT
  pub rank : ℕ → ℕ
  pub branch : (v : ℕ) → v < c.nodes → IsLabeled labels v → IsBranch c labels rank v (label_of labels v - 1)
  pub closed : (s : ℕ) → arc_of s < arcs c → 0 < room_of (network c) (flow_of c) s →
      IsLabeled labels (start_of (network c) s) → IsLabeled labels (end_of (network c) s)

-- the basin nodes that are unlabeled
abbrev pub unlabeled : Contents → List ℕ → ℕ → Bool
unlabeled c labels v = nat_lt v c.nodes && (label_of labels v == 0)
