-- Flows with lower and upper bounds on the arcs of a network, and the cuts of an arc, after Ahuja, Magnanti
-- and Orlin, Network Flows (1993), chapters 1 and 6. All amounts are in units of 1,000 cubic metres.
use Rattle.std.specs.Prelude.{ℕ, ◌≡◌, ◌+◌, ◌<◌, ◌≤◌, ◌==◌, ◌&&◌, not, Bool, true, false, List, [], ◌∷◌, ◌≢◌}
use Rattle.finite_sums.specs.Sums.{total, when}

-- basin nodes 0, 1, .. with supplies, and arcs 0, 1, .. with ends and bounds
pub record Network : Type 0 where
  pub nodes : ℕ
  pub arcs : ℕ
  pub from : ℕ → ℕ
  pub to : ℕ → ℕ
  pub supply : ℕ → ℕ
  pub lower : ℕ → ℕ
  pub upper : ℕ → ℕ

-- the node outside the basin, which need not be in balance: it is numbered after the basin nodes
abbrev pub outside : Network → ℕ
outside w = w.nodes

-- what the arcs that enter a node bring
abbrev pub inflow : Network → (ℕ → ℕ) → ℕ → ℕ
inflow w g v = total w.arcs (λ a. when (w.to a == v) (g a))

-- what the arcs that leave a node carry
abbrev pub outflow : Network → (ℕ → ℕ) → ℕ → ℕ
outflow w g v = total w.arcs (λ a. when (w.from a == v) (g a))

-- each arc's amount is within its bounds, and each basin node is in balance
pub record IsFlow (w : Network) (g : ℕ → ℕ) : Type 0 where
  pub low : (a : ℕ) → a < w.arcs → w.lower a ≤ g a
  pub high : (a : ℕ) → a < w.arcs → g a ≤ w.upper a
  pub balanced : (v : ℕ) → v < w.nodes → w.supply v + inflow w g v ≡ outflow w g v

-- the ends of each arc are nodes, and differ
pub record HasEnds (w : Network) : Type 0 where
  pub from_in : (a : ℕ) → a < w.arcs → w.from a ≤ outside w
  pub to_in : (a : ℕ) → a < w.arcs → w.to a ≤ outside w
  pub apart : (a : ℕ) → a < w.arcs → w.from a ≢ w.to a

-- a set of basin nodes with the tail of the arc r and without its head
pub record IsCut (w : Network) (r : ℕ) (y : ℕ → Bool) : Type 0 where
  pub basin : (v : ℕ) → w.nodes ≤ v → y v ≡ false
  pub tail : y (w.from r) ≡ true
  pub head : y (w.to r) ≡ false

-- the arc leads into the set
abbrev pub enters : Network → (ℕ → Bool) → ℕ → Bool
enters w y a = y (w.to a) && not (y (w.from a))

-- the arc leads out of the set
abbrev pub leaves : Network → (ℕ → Bool) → ℕ → Bool
leaves w y a = y (w.from a) && not (y (w.to a))

-- the supply in the set, and the uppers of the arcs that enter it
abbrev pub cut_in : Network → (ℕ → Bool) → ℕ
cut_in w y = total w.nodes (λ v. when (y v) (w.supply v)) + total w.arcs (λ a. when (enters w y a) (w.upper a))

-- the lowers of the arcs that leave the set, other than r
abbrev pub cut_out : Network → ℕ → (ℕ → Bool) → ℕ
cut_out w r y = total w.arcs (λ a. when (leaves w y a && not (a == r)) (w.lower a))

-- the bound of the cut, which is `cut_in` less `cut_out`, is the amount on the arc r
pub record IsTight (w : Network) (g : ℕ → ℕ) (r : ℕ) (y : ℕ → Bool) : Type 0 where
  pub cut : IsCut w r y
  pub equal : cut_in w y ≡ g r + cut_out w r y

-- a tight cut of the arc r that contains every tight cut of it
pub record IsGreatestCut (w : Network) (g : ℕ → ℕ) (r : ℕ) (y : ℕ → Bool) : Type 0 where
  pub tight : IsTight w g r y
  pub greatest : (z : ℕ → Bool) → IsTight w g r z → (v : ℕ) → z v ≡ true → y v ≡ true

-- a path of arcs other than r from the node v to the outside, each below its upper in every flow
abbrev pub LeadsOut : Network → ℕ → ℕ → List ℕ → Type 0
LeadsOut w r v [] = v ≡ outside w
LeadsOut w r v (a ∷ p) =
    (a < w.arcs) × (w.from a ≡ v) × (a ≢ r) × ((g : ℕ → ℕ) → IsFlow w g → g a < w.upper a) × LeadsOut w r (w.to a) p
