-- What one right's turn needs and what it changes.
use Rattle.std.specs.Prelude.{◌≡◌, ◌≢◌, ◌⊎◌, ℕ, ◌+◌, ◌*◌, ◌^◌, ◌<◌, ◌≤◌, Bool, List, length, slice_index, slice_set}
use Rattle.std.specs.Prelude.{Some, None, max, min}
use Rattle.water_model.specs.Lookups.{has}
use Rattle.water_model.specs.CutSets.{CutSets, set_of, with_set}
use Rattle.circulation.specs.Contents.{Contents, network, flow_of, arcs, IsCirculation}
use Rattle.circulation.specs.Network.{IsGreatestCut}
use Rattle.residual_tree.specs.Raised.{IsExit, IsRaisedOver, IsFull}
use Rattle.residual_tree.specs.Repair.{HasArtificialStep}
use Rattle.residual_tree.specs.Tree.{IsResidualTree, unlabeled}
use Rattle.residual_tree.specs.declared.raising.TreeRaised.{TreeRaised}
use Rattle.senior_hold.specs.declared.serving.Claim.{Claim}

-- the arc may have what is wanted on it, and the exit leads from its head to the outside
pub record IsClaim (c : Contents) (x : Claim) : Type 0 where
  pub arc : x.arc < arcs c
  pub want : x.want ≤ slice_index c.upper x.arc
  pub limit : x.want ≤ 10 ^ 9
  pub exit_arc : x.exit < arcs c
  pub exit : IsExit c x.arc x.exit

-- the right has no set, and may have one
pub record CanHaveSet (c : Contents) (cuts : CutSets) (x : Claim) : Type 0 where
  pub right : x.right < length cuts.sets
  pub nodes : cuts.nodes ≡ c.nodes
  pub free : set_of cuts x.right ≡ None

-- the lower bounds when the arc is held at what it has of the want
abbrev pub held_lower : Contents → Claim → (ℕ → ℕ) → List ℕ
held_lower c x g = slice_set c.lower x.arc (max (slice_index c.lower x.arc) (min x.want (g x.arc)))

-- the want is met, or the right has the greatest tight cut of the arc
abbrev pub IsMetOrCut : Contents → (ℕ → ℕ) → Claim → CutSets → CutSets → Type 0
IsMetOrCut c g x before after =
    ((x.want ≤ g x.arc) × (after ≡ before))
    ⊎ ((g x.arc < x.want) × ((cut : List Bool) × ((after ≡ with_set before x.right (Some cut))
    × ((length cut ≡ c.nodes) × IsGreatestCut (network c) g x.arc (has cut)))))

-- the arc is held at what it has of the want, and that is all of it, or the right has a cut
pub record IsServed (old new : Contents) (x : Claim) (before after : CutSets) : Type 0 where
  pub held : new ≡ record old { flow = new.flow; scratch = new.scratch; lower = held_lower old x (flow_of new) }
  pub outcome : IsMetOrCut old (flow_of new) x before after

-- there are as many nodes and sets as before
pub record KeepsShape (old new : CutSets) : Type 0 where
  pub nodes : new.nodes ≡ old.nodes
  pub sets : length new.sets ≡ length old.sets

-- what is on the arc rises towards what is wanted, and is held
pub record IsTreeRaise (old new : Contents) (x : Claim) : Type 0 where
  pub kept : IsCirculation new
  pub rest : IsRaisedOver old new x.arc
  pub held : flow_of new x.arc ≡ slice_index new.lower x.arc
  pub rises : flow_of old x.arc ≤ flow_of new x.arc
  pub limit : flow_of new x.arc ≤ x.want

-- the tree after a raise: where that stopped, the unlabeled nodes are the greatest tight cut of the arc
pub record LeavesTree (c : Contents) (labels : List ℕ) (x : Claim) (came : TreeRaised) : Type 0 where
  pub tree : came ≢ TreeRaised.Stopped → IsResidualTree c labels
  pub artificial : came ≡ TreeRaised.Stopped → HasArtificialStep c labels (2 * x.exit + 1)
  pub cut : came ≡ TreeRaised.Stopped → IsGreatestCut (network c) (flow_of c) x.arc (unlabeled c labels)

-- a raise of the arc comes to a circulation in which no more can go over the exit
pub record FillsExit (old : Contents) (x : Claim) : Type 0 where
  pub then : Contents
  pub kept : IsCirculation then
  pub rest : IsRaisedOver old then x.arc
  pub full : IsFull then x.exit
