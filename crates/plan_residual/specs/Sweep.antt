-- A search that goes on from the nodes that are reached as seen from one right to those as seen from a more senior one.
use Rattle.std.specs.Prelude.{◌≡◌, ℕ, ◌+◌, ◌*◌, ◌<◌, ◌≤◌, Bool, true, List, length, slice_index, slice_index_or, Some}
use Rattle.std.specs.Prelude.{None, IsTrue, Option, ⊤}
use Rattle.water_model.specs.Lookups.{has}
use Rattle.water_model.specs.Basin.{head_of, instream_link, is_senior}
use Rattle.water_model.specs.Cuts.{takes_within}
use Rattle.water_model.specs.History.{IsShort}
use Rattle.water_model.specs.Indices.{seniors_first}
use Rattle.water_model.specs.declared.types.Basin.{Basin}
use Rattle.water_model.specs.declared.types.MonthRecord.{MonthRecord}
use Rattle.plan_residual.specs.Reaches.{HasReach}
use Rattle.plan_residual.specs.Search.{IsFollowed, AreReachedApart}
use Rattle.plan_residual.specs.declared.steps.Direction.TheVariants.{FromSources}

-- a short right
pub record IsShortRight (b : Basin) (m : MonthRecord) (right : ℕ) : Type 0 where
  pub in_range : right < length b.rights
  pub short : IsShort m right

-- a right that is junior to another hinders it no more: its node was seen if it takes some, and from the head of its
-- link the step backward was followed
pub record IsPassed (b : Basin) (m : MonthRecord) (right : ℕ) (seen seen' : List Bool) (junior : ℕ) : Type 0 where
  pub taken : IsTrue (is_senior b right junior) → 0 < slice_index m.plan.take junior →
      IsTrue (takes_within b seen' junior)
  pub followed : (e : ℕ) → e < length b.links → instream_link b junior ≡ Some e → has seen (head_of b e) ≡ true →
      IsFollowed b m right FromSources seen' (2 * e + 1)

-- so are those at some indices of the order
abbrev pub ArePassed : Basin → MonthRecord → ℕ → List Bool → List Bool → ℕ → ℕ → Type 0
ArePassed b m right seen seen' from to = (i : ℕ) → from ≤ i → i < to →
    IsPassed b m right seen seen' (slice_index_or (seniors_first b) i 0)

-- the right at an index of the order
abbrev pub right_at : Basin → ℕ → ℕ
right_at b position = slice_index_or (seniors_first b) position 0

-- two short rights at indices of the order, and what is reached as seen from the junior one
pub record IsBetween (b : Basin) (m : MonthRecord) (position before : ℕ) (seen : List Bool) : Type 0 where
  pub within : before < length b.rights
  pub less : position < before
  pub short : IsShortRight b m (right_at b position)
  pub short_before : IsShortRight b m (right_at b before)
  pub reached : AreReachedApart b m (right_at b before) seen

-- how far a sweep has come, most junior first: at a short right at an index of the order or after it, with the nodes
-- that are reached as seen from it but for those only from the end of its own link, or at none yet
abbrev pub IsAt : Basin → MonthRecord → List Bool → ℕ → Option ℕ → Type 0
IsAt b m seen from None = ⊤
IsAt b m seen from (Some before) =
    (from ≤ before) × (before < length b.rights) × IsShortRight b m (right_at b before)
    × AreReachedApart b m (right_at b before) seen

-- of the rights from an index of the order on, the most senior short one whose set is not its reach, or none
abbrev pub IsFirstFrom : Basin → MonthRecord → ℕ → Option ℕ → Type 0
IsFirstFrom b m from None =
    (i : ℕ) → from ≤ i → i < length b.rights → IsShort m (right_at b i) → HasReach b m (right_at b i)
IsFirstFrom b m from (Some right) =
    (k : ℕ) × (from ≤ k) × (k < length b.rights) × (right_at b k ≡ right) × IsShort m right
    × (HasReach b m right → ⊥)
    × ((i : ℕ) → from ≤ i → i < k → IsShort m (right_at b i) → HasReach b m (right_at b i))
