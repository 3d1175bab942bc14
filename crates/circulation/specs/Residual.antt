-- The residual network of a flow, whose steps go over an arc forward, to raise its flow, or backward, to
-- lower it: Ahuja, Magnanti and Orlin, Network Flows (1993), section 2.4. A step is a number: 2 * a goes
-- over the arc a forward, and 2 * a + 1 backward.
use Rattle.std.specs.Prelude.{ℕ, ◌≡◌, ◌+◌, ◌-◌, ◌/◌, ◌%◌, ◌<◌, ◌≤◌, ◌≢◌, ◌==◌, not, Bool, true, false}
use Rattle.finite_sums.specs.Sums.{when}
use Rattle.circulation.specs.Network.{Network}

-- the arc that a step goes over
abbrev pub arc_of : ℕ → ℕ
arc_of s = s / 2

-- the step goes backward
abbrev pub is_backward : ℕ → Bool
is_backward s = s % 2 == 1

-- x for a step forward, y for one backward
abbrev pub by_direction : {A : Type 0} → Bool → A → A → A
by_direction true x y = y
by_direction false x y = x

-- the node that a step leaves
abbrev pub start_of : Network → ℕ → ℕ
start_of w s = by_direction (is_backward s) (w.from (arc_of s)) (w.to (arc_of s))

-- the node that a step enters
abbrev pub end_of : Network → ℕ → ℕ
end_of w s = by_direction (is_backward s) (w.to (arc_of s)) (w.from (arc_of s))

-- the step over the same arc the other way
abbrev pub opposite : ℕ → ℕ
opposite s = by_direction (is_backward s) (s + 1) (s - 1)

-- the residual capacity of a step: how much more it can carry
abbrev pub room_of : Network → (ℕ → ℕ) → ℕ → ℕ
room_of w g s = by_direction (is_backward s) (w.upper (arc_of s) - g (arc_of s)) (g (arc_of s) - w.lower (arc_of s))

-- the steps numbered from `first` to below `last` are a closed walk that goes over no arc twice, each with room
-- for the amount
pub record IsClosedWalk (w : Network) (g step : ℕ → ℕ) (first last amount : ℕ) : Type 0 where
  pub some : first < last
  pub positive : 0 < amount
  pub arc : (i : ℕ) → first ≤ i → i < last → arc_of (step i) < w.arcs
  pub room : (i : ℕ) → first ≤ i → i < last → amount ≤ room_of w g (step i)
  pub joined : (i : ℕ) → first ≤ i → i + 1 < last → end_of w (step i) ≡ start_of w (step (i + 1))
  pub closed : (i : ℕ) → i + 1 ≡ last → end_of w (step i) ≡ start_of w (step first)
  pub once : (i j : ℕ) → first ≤ i → i < j → j < last → arc_of (step i) ≢ arc_of (step j)

-- the flow changed by the amount on the arc of each of these steps, and nowhere else
pub record IsPushed (old new step : ℕ → ℕ) (first last amount : ℕ) : Type 0 where
  pub on : (i : ℕ) → first ≤ i → i < last →
      new (arc_of (step i)) + when (is_backward (step i)) amount
      ≡ old (arc_of (step i)) + when (not (is_backward (step i))) amount
  pub off : (a : ℕ) → ((i : ℕ) → first ≤ i → i < last → arc_of (step i) ≢ a) → new a ≡ old a
