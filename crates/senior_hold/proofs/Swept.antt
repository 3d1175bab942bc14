-- A month in which the first rights by seniority are served.
use Rattle.std.specs.Prelude.{◌≡◌, ℕ, ◌<◌, ◌≤◌, List, length, slice_index, None, min, nat_lt}
use Rattle.water_model.specs.CutSets.{CutSets, set_of}
use Rattle.water_text.specs.declared.month.Month.{Month}
use Rattle.water_model.specs.declared.types.Basin.{Basin}
use Rattle.circulation.specs.Network.{Network, IsFlow}
use Rattle.senior_hold.specs.MonthNetwork.{right_arc, KeepsForSeniors, list_of}
use Rattle.senior_hold.specs.Solved.{IsMetOrReached}

-- what a flow delivers to a right: at most its want, and at most the flow of its arc
abbrev pub delivered_by : Basin → List ℕ → (ℕ → ℕ) → ℕ → ℕ
delivered_by b want g right = min (slice_index want right) (g (right_arc b right))

abbrev pub deliveries_by : Basin → List ℕ → (ℕ → ℕ) → List ℕ
deliveries_by b want g = list_of (length b.rights) (delivered_by b want g)

-- the first k rights of the order are held and settled, and no other has a set
pub record IsSwept (b : Basin) (month : Month) (supply want : List ℕ) (place : ℕ → ℕ) (k : ℕ) (w : Network) (g : ℕ → ℕ)
    (cuts : CutSets) : Type 0 where
  pub flow : IsFlow w g
  pub held : KeepsForSeniors b (deliveries_by b want g) (λ s. nat_lt (place s) k) w
  pub settled : (r : ℕ) → r < length b.rights → place r < k →
      IsMetOrReached b month supply want (deliveries_by b want g) cuts r
  pub others : (r : ℕ) → r < length b.rights → k ≤ place r → set_of cuts r ≡ None
