-- The courses of a month's water beside its draws, and what a draw may be.
use Rattle.std.specs.Prelude.{◌≡◌, ℕ, ◌+◌, ◌<◌, ◌≤◌, ◌==◌, false, List, length, slice_index}
use Rattle.finite_sums.specs.Sums.{total_where}
use Rattle.water_model.specs.Basin.{tail_of, head_of, is_outlet}
use Rattle.water_model.specs.Plans.{carry_of}
use Rattle.water_model.specs.declared.types.Basin.{Basin}
use Rattle.draw_course.specs.Draws.{MonthDraws, diversion_of, reservoir_of, with_draw}

-- what diversions at a node drew
abbrev pub drawn_at : MonthDraws → ℕ → ℕ
drawn_at m node = total_where (length m.draws) (λ k. diversion_of m.draws k == node) (λ k. slice_index m.drawn k)

-- what was drawn on reservoirs at a node, which keep so much less
abbrev pub left_at : MonthDraws → ℕ → ℕ
left_at m node = total_where (length m.draws) (λ k. reservoir_of m.draws k == node) (λ k. slice_index m.drawn k)

-- a flow on each link, at least what is held on it and at most what it carries, and an outflow at each outlet, such
-- that each node is in balance: it has its supply and what links bring, and of that links take, what is taken at it
-- before any draw stays, more by what diversions at it drew and less by what was drawn on reservoirs at it, and the
-- rest leaves the basin
pub record IsCourse (m : MonthDraws) (flow out : ℕ → ℕ) : Type 0 where
  pub low : (e : ℕ) → e < length m.basin.links → slice_index m.held e ≤ flow e
  pub high : (e : ℕ) → e < length m.basin.links → flow e ≤ carry_of m.basin m.month e
  pub outlets : (n : ℕ) → n < length m.basin.nodes → is_outlet m.basin n ≡ false → out n ≡ 0
  pub balance : (n : ℕ) → n < length m.basin.nodes →
      slice_index m.supply n + total_where (length m.basin.links) (λ e. head_of m.basin e == n) flow + left_at m n
      ≡ total_where (length m.basin.links) (λ e. tail_of m.basin e == n) flow + slice_index m.taken n + drawn_at m n
      + out n

-- a node is in balance before any draw
abbrev pub IsBalancedAt : Basin → (supply taken flow out : List ℕ) → ℕ → Type 0
IsBalancedAt b supply taken flow out n =
    slice_index supply n + total_where (length b.links) (λ e. head_of b e == n) (slice_index flow)
    ≡ total_where (length b.links) (λ e. tail_of b e == n) (slice_index flow) + slice_index taken n + slice_index out n

-- there is a course
abbrev pub HasCourse : MonthDraws → Type 0
HasCourse m = (flow : ℕ → ℕ) × ((out : ℕ → ℕ) × IsCourse m flow out)

-- the greatest amount up to the cap with which there is a course
pub record IsGreatestDraw (m : MonthDraws) (k cap amount : ℕ) : Type 0 where
  pub within : amount ≤ cap
  pub course : HasCourse (with_draw m k amount)
  pub greatest : (more : ℕ) → more ≤ cap → HasCourse (with_draw m k more) → more ≤ amount
