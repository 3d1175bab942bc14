-- Seniors first, each short right claims the nodes of its core that no senior claimed.
use Rattle.std.specs.Prelude.{◌≡◌, ◌≢◌, ℕ, ◌<◌, ◌≤◌, ◌⊎◌, Bool, true, false, List, length, slice_index, slice_index_or}
use Rattle.std.specs.Prelude.{Option, Some, None}
use Rattle.water_model.specs.Lookups.{has}
use Rattle.water_model.specs.History.{IsShort}
use Rattle.water_model.specs.declared.types.Basin.{Basin}
use Rattle.water_model.specs.declared.types.MonthRecord.{MonthRecord}
use Rattle.plan_residual.specs.declared.steps.Direction.TheVariants.{ToRight}
use Rattle.plan_residual.specs.Core.{IsCore}
use Rattle.plan_residual.specs.FirstCores.{HasCoreAt, IsFirstCoreAt}
use Rattle.plan_residual.specs.Search.{IsClosedAlong}
use Rattle.plan_residual.specs.Queue.{QueueView, IsQueue, Extends}
use Rattle.plan_residual.specs.Sweep.{right_at}

-- the nodes of a right's core were added, or were there, and no others
pub record IsClaim (b : Basin) (m : MonthRecord) (right : ℕ) (q q' : QueueView) : Type 0 where
  pub in_queue : IsQueue q'
  pub count : length q'.seen ≡ length q.seen
  pub extends : Extends q q'
  pub closed : IsClosedAlong b m right ToRight q'.seen
  pub holds : (core : List Bool) → IsCore b m right core → (n : ℕ) → has core n ≡ true → has q'.seen n ≡ true
  pub only : (core : List Bool) → IsCore b m right core → (n : ℕ) → has q'.seen n ≡ true →
      (has q.seen n ≡ true) ⊎ (has core n ≡ true)

-- the nodes from an index of the queue on were marked as a right's, and no others
pub record AreMarked (q : QueueView) (from to right : ℕ) (firsts firsts' : List (Option ℕ)) : Type 0 where
  pub count : length firsts' ≡ length firsts
  pub marked : (j : ℕ) → from ≤ j → j < to → slice_index_or firsts' (slice_index q.nodes j) None ≡ Some right
  pub kept : (v : ℕ) → ((j : ℕ) → from ≤ j → j < to → slice_index q.nodes j ≢ v) →
      slice_index_or firsts' v None ≡ slice_index_or firsts v None

-- The nodes in the queue are those in the core of a short right before an index of the order, each marked as the most
-- senior one's. As seen from the short rights after, no step with room leads to them.
pub record AreClaimed (b : Basin) (m : MonthRecord) (position : ℕ) (q : QueueView) (firsts : List (Option ℕ)) : Type 0
  where
    pub in_queue : IsQueue q
    pub count : length q.seen ≡ length b.nodes
    pub one_each : length firsts ≡ length b.nodes
    pub closed : (i : ℕ) → position ≤ i → i < length b.rights → IsShort m (right_at b i) →
        IsClosedAlong b m (right_at b i) ToRight q.seen
    pub claimed : (n : ℕ) → has q.seen n ≡ true →
        (r : ℕ) × (slice_index_or firsts n None ≡ Some r) × IsFirstCoreAt b m n r
    pub free : (n : ℕ) → n < length b.nodes → has q.seen n ≡ false → (slice_index_or firsts n None ≡ None)
        × ((i : ℕ) → i < position → HasCoreAt b m n (right_at b i) → ⊥)
