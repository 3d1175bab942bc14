-- What a raise by the tree leaves.
use Rattle.std.specs.Prelude.{ℕ, ◌≡◌, ◌≢◌, ◌+◌, ◌*◌, ◌<◌, ◌≤◌, ◌⊎◌, List, slice_index}
use Rattle.circulation.specs.Contents.{Contents, arcs, network, flow_of, step_of, SameButScratch}
use Rattle.circulation.specs.Residual.{arc_of, end_of, room_of, IsClosedWalk}
use Rattle.residual_tree.specs.Tree.{IsLabeled}
use Rattle.residual_tree.specs.Repair.{OccursIn}

-- only the flow, scratch words and the lower bound of the arc r changed
pub record IsRaisedOver (old new : Contents) (r : ℕ) : Type 0 where
  pub rest : new ≡ record old { lower = new.lower; flow = new.flow; scratch = new.scratch }
  pub lowers : (a : ℕ) → a ≢ r → slice_index new.lower a ≡ slice_index old.lower a

-- where the head of the arc r is not the outside, x is an arc from there to the outside
abbrev pub IsExit : Contents → ℕ → ℕ → Type 0
IsExit c r x = slice_index c.to r ≢ c.nodes → (x < arcs c) × (slice_index c.from x ≡ slice_index c.to r)
    × (slice_index c.to x ≡ c.nodes)

-- no more can go over the arc x
abbrev pub IsFull : Contents → ℕ → Type 0
IsFull c x = room_of (network c) (flow_of c) (2 * x) ≡ 0

-- a step was written before the scratch words from `first` on
pub record IsTaken (c d : Contents) (first first' s : ℕ) : Type 0 where
  pub rest : SameButScratch c d
  pub before : first' + 1 ≡ first
  pub at : step_of d first' ≡ s
  pub others : (i : ℕ) → first ≤ i → step_of d i ≡ step_of c i

-- the steps of the walk from `first` on have room for the amount, and those that have no more than that stand in the
-- scratch words below `full`
pub record IsGathered (c : Contents) (first full amount : ℕ) : Type 0 where
  pub fits : full + first ≤ 4 * c.nodes + 8
  pub arc : (i : ℕ) → i < full → arc_of (step_of c i) < arcs c
  pub least : (i : ℕ) → first ≤ i → i < 4 * c.nodes + 8 → amount ≤ room_of (network c) (flow_of c) (step_of c i)
  pub all : (i : ℕ) → first ≤ i → i < 4 * c.nodes + 8 →
      OccursIn c.scratch 0 full (step_of c i) ⊎ (amount < room_of (network c) (flow_of c) (step_of c i))

-- the scratch words from `first` on are a closed walk over the arc r and nodes that are labeled, unless it has no room
pub record IsTraced (c e : Contents) (labels : List ℕ) (r most first amount full : ℕ) : Type 0 where
  pub rest : SameButScratch c e
  pub some : first < 4 * c.nodes + 8
  pub prefix : 0 < first
  pub walk : 0 < amount → IsClosedWalk (network c) (flow_of c) (step_of e) first (4 * c.nodes + 8) amount
  pub limit : amount ≤ most
  pub forward : step_of e first ≡ 2 * r
  pub ends : (i : ℕ) → first ≤ i → i < 4 * c.nodes + 8 → IsLabeled labels (end_of (network c) (step_of e i))
  pub gathered : IsGathered e first full amount
