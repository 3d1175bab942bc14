-- What a raise answers and leaves.
use Rattle.std.specs.Prelude.{ℕ, ◌≡◌, ◌<◌, ◌≤◌, nat_lt, ◌==◌, ◌&&◌, Bool, List, slice_index}
use Rattle.finite_sums.specs.Sums.{total, when}
use Rattle.circulation.specs.Network.{Network, IsFlow, LeadsOut}
use Rattle.circulation.specs.Contents.{Contents}

-- the head of the arc r is the outside node, or a path leads from it there that has forward room in every flow
pub record HasPathOut (w : Network) (r : ℕ) : Type 0 where
  pub path : List ℕ
  pub leads : LeadsOut w r (w.to r) path

-- how many arcs have an upper bound above 0: the others carry nothing in any flow
abbrev pub open_arcs : Network → ℕ
open_arcs w = total w.arcs (λ a. when (nat_lt 0 (w.upper a)) 1)

-- some flow has x on the arc r
abbrev pub CanCarry : Network → ℕ → ℕ → Type 0
CanCarry w r x = (g : ℕ → ℕ) × (IsFlow w g × (g r ≡ x))

-- no flow has more than x on the arc r
abbrev pub CarriesAtMost : Network → ℕ → ℕ → Type 0
CarriesAtMost w r x = (g : ℕ → ℕ) → IsFlow w g → g r ≤ x

-- the position of a node among those that the last search reached, from 1 on, or 0 where it was not reached
abbrev pub position_of : Contents → ℕ → ℕ
position_of c v = slice_index c.scratch v

-- the last search reached the node
abbrev pub IsReached : Contents → ℕ → Type 0
IsReached c v = 0 < position_of c v

-- the basin nodes that the last search did not reach
abbrev pub not_reached : Contents → ℕ → Bool
not_reached c v = nat_lt v c.nodes && (position_of c v == 0)
