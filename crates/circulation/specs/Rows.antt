-- The rows of a network: for each node the steps of the residual network that leave it.
use Rattle.std.specs.Prelude.{ℕ, ◌≡◌, ◌+◌, ◌<◌, ◌≤◌, List, length, slice_index}
use Rattle.circulation.specs.Network.{Network}
use Rattle.circulation.specs.Residual.{arc_of, start_of, end_of}

-- the steps of all rows, one row after another, the node that each of them enters, and the index at which each row
-- begins
pub record Rows : Type 0 where
  pub first : List ℕ
  pub step : List ℕ
  pub end : List ℕ

-- the arcs with these tails and heads, as a network: where a step leads from and to depends on nothing else
abbrev pub over : List ℕ → List ℕ → Network
over from to = record {
  nodes = 0;
  arcs = length from;
  from = λ a. slice_index from a;
  to = λ a. slice_index to a;
  supply = λ v. 0;
  lower = λ a. 0;
  upper = λ a. 0;
}

-- the step s leads from the node v to the node u
pub record Leads (from to : List ℕ) (v s u : ℕ) : Type 0 where
  pub arc : arc_of s < length from
  pub start : start_of (over from to) s ≡ v
  pub end : end_of (over from to) s ≡ u

-- the index p is in the row of the node v
pub record IsInRow (r : Rows) (v p : ℕ) : Type 0 where
  pub from : slice_index r.first v ≤ p
  pub below : p < slice_index r.first (v + 1)

-- the row of the node v has each step that leaves the node, once, and no other
pub record IsRow (from to : List ℕ) (r : Rows) (v : ℕ) : Type 0 where
  pub order : slice_index r.first v ≤ slice_index r.first (v + 1)
  pub within : slice_index r.first (v + 1) ≤ length r.step
  pub leads : (p : ℕ) → IsInRow r v p → Leads from to v (slice_index r.step p) (slice_index r.end p)
  pub once : (p q : ℕ) → IsInRow r v p → IsInRow r v q → slice_index r.step p ≡ slice_index r.step q → p ≡ q
  pub all : (s : ℕ) → arc_of s < length from → start_of (over from to) s ≡ v →
      (p : ℕ) × (IsInRow r v p × (slice_index r.step p ≡ s))

-- each node has its row, the outside node too
pub record AreRows (nodes : ℕ) (from to : List ℕ) (r : Rows) : Type 0 where
  pub firsts : length r.first ≡ nodes + 2
  pub ends : length r.end ≡ length r.step
  pub rows : (v : ℕ) → v ≤ nodes → IsRow from to r v
