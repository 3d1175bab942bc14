-- The run of the river: what flows where nobody takes and each node sends all its water down its first river.
use Rattle.std.specs.Prelude.{◌≡◌, ℕ, ◌+◌, ◌<◌, ◌==◌, true, false, List, length, slice_index}
use Rattle.finite_sums.specs.Sums.{total_where}
use Rattle.water_model.specs.Network.{tail_in, head_in, is_river_in, is_outlet_in}
use Rattle.water_model.specs.declared.types.Basin.{Basin}
use Rattle.water_model.specs.declared.types.Link.{Link}
use Rattle.water_model.specs.declared.types.Node.{Node}
use Rattle.water_model.specs.declared.types.Plan.{Plan}

-- the link is the first river that leaves its node
pub record IsFirstRiver (links : List Link) (link : ℕ) : Type 0 where
  pub in_range : link < length links
  pub river : is_river_in links link ≡ true
  pub first : (other : ℕ) → other < link → tail_in links other ≡ tail_in links link → is_river_in links other ≡ false

-- the water at a node: its supply, and what links bring
abbrev pub water_at : List Link → List ℕ → List ℕ → ℕ → ℕ
water_at links supply flow node =
    slice_index supply node + total_where (length links) (λ e. head_in links e == node) (λ e. slice_index flow e)

-- all water of a node that is no outlet goes down its first river, every other link has none, and outlets let theirs
-- out
pub record RunsNaturally (nodes : List Node) (links : List Link) (supply flow out : List ℕ) : Type 0 where
  pub flow_len : length flow ≡ length links
  pub out_len : length out ≡ length nodes
  pub rivers : (e : ℕ) → IsFirstRiver links e → slice_index flow e ≡ water_at links supply flow (tail_in links e)
  pub others : (e : ℕ) → e < length links → (IsFirstRiver links e → ⊥) → slice_index flow e ≡ 0
  pub outlets : (n : ℕ) → n < length nodes → is_outlet_in nodes n ≡ true →
      slice_index out n ≡ water_at links supply flow n
  pub inner : (n : ℕ) → n < length nodes → is_outlet_in nodes n ≡ false → slice_index out n ≡ 0

-- the plan of a month that is the run of the river
pub record IsRunOfRiver (b : Basin) (supply : List ℕ) (p : Plan) : Type 0 where
  pub run : RunsNaturally b.nodes b.links supply p.flow p.out
  pub take_len : length p.take ≡ length b.rights
  pub takes : (r : ℕ) → r < length b.rights → slice_index p.take r ≡ 0
