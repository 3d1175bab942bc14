-- A step over an arc, forward or backward, leads from a node to a node.
use Rattle.std.proofs.Common.{ℕ, Bool, true, false, ◌≡◌, ◌+◌, ◌-◌, ◌*◌, ◌<◌, ◌≤◌, ◌⊎◌, arith, inl, inr, refl}
use Rattle.std.proofs.lemmas.Bool.{cases_Bool, eqb-true, eqb-false, eq-eqb, ne_eqb}
use Rattle.circulation.specs.Network.{Network, HasEnds}
use Rattle.circulation.specs.Contents.{Contents, network, arcs, IsCirculation}
use Rattle.circulation.specs.Residual.{arc_of, is_backward, by_direction, start_of, end_of, room_of}

-- what a step over the arc a, forward or backward, is
pub record IsOver (w : Network) (g : ℕ → ℕ) (s a : ℕ) (back : Bool) : Type 0 where
  pub arc : arc_of s ≡ a
  pub way : is_backward s ≡ back
  pub starts : start_of w s ≡ by_direction back (w.from a) (w.to a)
  pub enters : end_of w s ≡ by_direction back (w.to a) (w.from a)
  pub room : room_of w g s ≡ by_direction back (w.upper a - g a) (g a - w.lower a)

-- a step of an arc and a way
pub over : (w : Network) (g : ℕ → ℕ) (s a : ℕ) (back : Bool) → arc_of s ≡ a → is_backward s ≡ back → IsOver w g s a back
over w g s a back arc way = record {
  arc = arc;
  way = way;
  starts = rw (way, arc) refl;
  enters = rw (way, arc) refl;
  room = rw (way, arc) refl;
}

-- the step forward over an arc
pub over_forward : (w : Network) (g : ℕ → ℕ) (a : ℕ) → IsOver w g (2 * a) a false
over_forward w g a = over w g (2 * a) a false (omega arith) (ne_eqb _ 1 (λ f. absurd (omega arith)))

-- the step backward over an arc
pub over_backward : (w : Network) (g : ℕ → ℕ) (a : ℕ) → IsOver w g (2 * a + 1) a true
over_backward w g a = over w g (2 * a + 1) a true (omega arith) (eq-eqb _ 1 (omega arith))

-- each step goes forward or backward over its arc
pub over_either : (w : Network) (g : ℕ → ℕ) (s : ℕ) →
    ((s ≡ 2 * arc_of s) × IsOver w g s (arc_of s) false) ⊎ ((s ≡ 2 * arc_of s + 1) × IsOver w g s (arc_of s) true)
over_either w g s = elim (cases_Bool (is_backward s)) [
  | inl e ↦ let odd = eqb-true _ 1 e in inr (omega (arith, odd), over w g s (arc_of s) true refl e)
  | inr e ↦ let even = eqb-false _ 1 e in inl (omega (arith, even), over w g s (arc_of s) false refl e)
]

-- two steps over one arc have the same ends
same_ends : (p q : Bool) (x y : ℕ) → (by_direction p x y ≡ by_direction q x y) ⊎
    (by_direction p x y ≡ by_direction q y x)
same_ends true true x y = inl refl
same_ends true false x y = inr refl
same_ends false true x y = inr refl
same_ends false false x y = inl refl

-- a step over the same arc starts where the other starts or ends
pub start_is_either : (w : Network) (s t : ℕ) → arc_of s ≡ arc_of t →
    (start_of w s ≡ start_of w t) ⊎ (start_of w s ≡ end_of w t)
start_is_either w s t e = rw e (same_ends (is_backward s) (is_backward t) (w.from (arc_of t)) (w.to (arc_of t)))

-- and ends where the other ends or starts
pub end_is_either : (w : Network) (s t : ℕ) → arc_of s ≡ arc_of t →
    (end_of w s ≡ end_of w t) ⊎ (end_of w s ≡ start_of w t)
end_is_either w s t e = rw e (same_ends (is_backward s) (is_backward t) (w.to (arc_of t)) (w.from (arc_of t)))

-- a bound of two numbers is a bound of the chosen one
by_direction_both : (back : Bool) (x y n : ℕ) → x ≤ n → y ≤ n → by_direction back x y ≤ n
by_direction_both back x y n a b = elim back as (λ t. by_direction t x y ≤ n) [ true ↦ b | false ↦ a ]

-- a step starts at a node
pub start_within : (w : Network) (s : ℕ) → HasEnds w → arc_of s < w.arcs → start_of w s ≤ w.nodes
start_within w s ends b = by_direction_both (is_backward s) _ _ w.nodes (ends.from_in _ b) (ends.to_in _ b)

-- and enters one
pub end_within : (c : Contents) (s : ℕ) → IsCirculation c → arc_of s < arcs c → end_of (network c) s ≤ c.nodes
end_within c s k b = by_direction_both (is_backward s) _ _ c.nodes (k.ends.to_in _ b) (k.ends.from_in _ b)
