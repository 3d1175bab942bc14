-- What raising a draw's arc changes.
use Rattle.std.specs.Prelude.{◌≡◌, ◌⊎◌, ℕ, ◌+◌, ◌<◌, ◌≤◌, Bool, List, length, slice_index, slice_set, Some}
use Rattle.water_model.specs.Lookups.{has}
use Rattle.water_model.specs.CutSets.{CutSets, with_set}
use Rattle.circulation.specs.Contents.{Contents, network, flow_of, bounded_contents}
use Rattle.circulation.specs.Network.{IsFlow, IsTight}

-- only lower bounds changed
abbrev pub SameButLower : Contents → Contents → Type 0
SameButLower old new = new ≡ record old { lower = new.lower }

-- the first of these amounts are held on the arcs from one on, and on others what was held there
pub record IsHeldFrom (old new : List ℕ) (first : ℕ) (amounts : List ℕ) (count : ℕ) : Type 0 where
  pub size : length new ≡ length old
  pub held : (i : ℕ) → i < count → slice_index new (first + i) ≡ slice_index amounts i
  pub others : (a : ℕ) → (a < first) ⊎ (first + count ≤ a) → slice_index new a ≡ slice_index old a

-- the arc is fixed at an amount; besides this only the flow and scratch words changed
abbrev pub fixed_contents : Contents → Contents → ℕ → ℕ → Contents
fixed_contents old new arc amount = record old {
  flow = new.flow;
  scratch = new.scratch;
  lower = slice_set old.lower arc amount;
  upper = slice_set old.upper arc amount;
}

-- the arc has the cap, or less and the draw has a tight cut of the arc
abbrev pub IsFullOrCut : Contents → (g : ℕ → ℕ) → (arc draw cap amount : ℕ) → CutSets → CutSets → Type 0
IsFullOrCut opened g arc draw cap amount before after =
    ((amount ≡ cap) × (after ≡ before))
    ⊎ ((amount < cap) × ((set : List Bool) × ((after ≡ with_set before draw (Some set))
    × ((length set ≡ opened.nodes) × IsTight (network opened) g arc (has set)))))

-- the arc, which was shut, was opened up to the cap, raised as far as the network allows, and fixed at that
pub record IsRaisedDraw (old new : Contents) (arc draw cap amount : ℕ) (before after : CutSets) : Type 0 where
  pub fixed : new ≡ fixed_contents old new arc amount
  pub carried : flow_of new arc ≡ amount
  pub within : amount ≤ cap
  pub greatest : (h : ℕ → ℕ) → IsFlow (network (bounded_contents old arc cap)) h → h arc ≤ amount
  pub outcome : IsFullOrCut (bounded_contents old arc cap) (flow_of new) arc draw cap amount before after
