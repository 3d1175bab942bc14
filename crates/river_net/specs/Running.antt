-- Water sent down rivers, node by node in the order of a network.
use Rattle.std.specs.Prelude.{◌≡◌, ◌≢◌, ◌⊎◌, ℕ, ◌+◌, ◌<◌, ◌≤◌, ◌^◌, ◌==◌, Option, IfSome, false, List, length}
use Rattle.std.specs.Prelude.{slice_index}
use Rattle.finite_sums.specs.Sums.{total, total_where}
use Rattle.water_model.specs.Network.{tail_in, head_in, is_outlet_in}
use Rattle.water_model.specs.RunOfRiver.{IsFirstRiver}
use Rattle.water_model.specs.declared.types.Link.{Link}
use Rattle.water_model.specs.declared.types.Node.{Node}

-- a river has its index in the lists, leads to another node, and the water there stays below 2^64
abbrev pub CanSend : Option ℕ → ℕ → List ℕ → List ℕ → List ℕ → Type 0
CanSend river node heads flow out =
    IfSome river (λ e. (e < length flow) × ((e < length heads) × ((slice_index heads e < length out)
    × ((slice_index heads e ≢ node) × (slice_index out (slice_index heads e) + slice_index out node < 2 ^ 64)))))

-- what stands at a node goes down a link to its head
pub record IsSent (link node head : ℕ) (flow flow' out out' : ℕ → ℕ) : Type 0 where
  pub on : flow' link ≡ out node
  pub off : (e : ℕ) → e ≢ link → flow' e ≡ flow e
  pub left : out' node ≡ 0
  pub reached : out' head ≡ out head + out node
  pub others : (v : ℕ) → v ≢ node → v ≢ head → out' v ≡ out v

-- the nodes at the positions below `done` have sent their water on
pub record IsRunning (nodes : List Node) (links : List Link) (supply position : ℕ → ℕ) (done : ℕ) (flow out : ℕ →
    ℕ) : Type 0 where
  pub balance : (v : ℕ) → v < length nodes →
      supply v + total_where (length links) (λ e. head_in links e == v) flow
      ≡ total_where (length links) (λ e. tail_in links e == v) flow + out v
  pub all : total (length nodes) out ≡ total (length nodes) supply
  pub empty : (v : ℕ) → v < length nodes → position v < done → is_outlet_in nodes v ≡ false → out v ≡ 0
  pub quiet : (e : ℕ) → e < length links →
      (flow e ≡ 0) ⊎ (IsFirstRiver links e × (position (tail_in links e) < done))
  pub small : (e : ℕ) → e < length links → flow e ≤ total (length nodes) supply
