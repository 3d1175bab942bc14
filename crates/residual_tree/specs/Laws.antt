-- What a residual tree says of the network.
use Rattle.std.specs.Prelude.{ℕ, ◌≡◌, ◌<◌, ◌≤◌, ◌↔◌, Bool, List, [], ◌∷◌, slice_index}
use Rattle.circulation.specs.Contents.{Contents, network, flow_of, arcs, IsCirculation}
use Rattle.circulation.specs.Residual.{arc_of, start_of, end_of, room_of}
use Rattle.circulation.specs.Network.{IsGreatestCut}
use Rattle.residual_tree.specs.Tree.{label_of, IsLabeled, IsResidualTree, unlabeled}
use Rattle.residual_tree.specs.Raised.{IsRaisedOver}

-- these steps, the last first, are a walk with room from the outside to the node
abbrev pub IsWalkTo : Contents → ℕ → List ℕ → Type 0
IsWalkTo c v [] = v ≡ c.nodes
IsWalkTo c v (s ∷ path) =
    (arc_of s < arcs c) × (end_of (network c) s ≡ v) × (0 < room_of (network c) (flow_of c) s) ×
    IsWalkTo c (start_of (network c) s) path

-- exactly the nodes to which such a walk leads are labeled
abbrev pub LabeledIsReachable : Type 0
LabeledIsReachable = (c : Contents) (labels : List ℕ) (v : ℕ) → IsCirculation c → IsResidualTree c labels →
    v ≤ c.nodes →
    IsLabeled labels v ↔ ((path : List ℕ) × IsWalkTo c v path)

-- where the tail of an arc is unlabeled and its head is not, the unlabeled nodes are its greatest tight cut
abbrev pub UnlabeledIsGreatestCut : Type 0
UnlabeledIsGreatestCut = (c : Contents) (labels : List ℕ) (r : ℕ) → IsCirculation c → IsResidualTree c labels →
    r < arcs c →
    label_of labels (slice_index c.from r) ≡ 0 → IsLabeled labels (slice_index c.to r) →
    IsGreatestCut (network c) (flow_of c) r (unlabeled c labels)

-- the greatest tight cut of an arc does not depend on what is held on the arc itself
abbrev pub CutStaysWhenHeld : Type 0
CutStaysWhenHeld = (old new : Contents) (r : ℕ) (y : ℕ → Bool) → IsRaisedOver old new r →
    IsGreatestCut (network new) (flow_of new) r y → IsGreatestCut (network old) (flow_of new) r y
