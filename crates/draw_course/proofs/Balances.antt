-- Balance at the nodes of a month's network, and in a course.
use Rattle.std.proofs.Common.{◌≡◌, ◌≢◌, ℕ, ◌+◌, ◌<◌, Bool, true, false, refl, ◌∙◌, ap, arith, length, inl, inr}
use Rattle.std.proofs.Common.{List}
use Rattle.std.proofs.lemmas.Bool.Decides.{nat_tests, eqb_tells}
use Rattle.std.specs.Prelude.{◌==◌, slice_index, if◌then◌else◌}
use Rattle.finite_sums.specs.Sums.{total, total_where, when}
use Rattle.finite_sums.proofs.Totals.{total_same, total_zero, total_pick, total_add}
use Rattle.water_model.specs.Basin.{tail_of, head_of}
use Rattle.water_model.specs.declared.types.Basin.{Basin}
use Rattle.circulation.specs.Network.{Network, inflow, outflow}
use Rattle.draw_course.specs.Draws.{MonthDraws, diversion_of, reservoir_of}
use Rattle.draw_course.specs.Courses.{drawn_at, left_at}
use Rattle.draw_course.specs.Arcs.{take_arc, out_arc, draw_arc, draw_head}
use Rattle.draw_course.specs.MonthNetwork.{HasCourseEnds, moved}
use Rattle.draw_course.specs.declared.draws.DrawNodes.{DrawNodes}
use Rattle.draw_course.proofs.Parts.{arcs_total}

pub when_none : (t : Bool) (x : ℕ) → t ≡ false → when t x ≡ 0
when_none t x h = ap (λ (t : Bool). when t x) h

pub differs : (m n : ℕ) → m ≢ n → m == n ≡ false
differs m n ne = grind (arith, nat_tests)

pub itself : (n : ℕ) → n == n ≡ true
itself n = grind (arith, nat_tests)

-- what draws bring to a node, by what their arcs carry
abbrev pub heads_at : Basin → List DrawNodes → (ℕ → ℕ) → ℕ → ℕ
heads_at b draws f v = total_where (length draws) (λ k. draw_head b draws k == v) f

-- and what they take from it
abbrev pub tails_at : List DrawNodes → (ℕ → ℕ) → ℕ → ℕ
tails_at draws f v = total_where (length draws) (λ k. diversion_of draws k == v) f

-- what the arcs that enter a node bring
pub node_inflow : (b : Basin) (draws : List DrawNodes) (w : Network) (g : ℕ → ℕ) (v : ℕ) → HasCourseEnds b draws w →
    v < length b.nodes → inflow w g v ≡ total_where (length b.links) (λ e. head_of b e == v) g
    + heads_at b draws (λ k. g (draw_arc b k)) v
node_inflow b draws w g v ends l =
    omega (
      arith,
      ap (λ n. total n f) ends.arcs,
      arcs_total b (length draws) f,
      total_same (length b.links) f (λ e. when (head_of b e == v) (g e))
          (λ e k. ap (λ n. when (n == v) (g e)) (ends.link_to e k)),
      total_zero (length b.nodes) (λ n. f (take_arc b n)) (λ n k. none (take_arc b n) (ends.take_to n k)),
      total_zero (length b.nodes) (λ n. f (out_arc b n)) (λ n k. none (out_arc b n) (ends.out_to n k)),
      total_same (length draws) (λ k. f (draw_arc b k)) (λ k. when (draw_head b draws k == v) (g (draw_arc b k)))
          (λ k m. ap (λ n. when (n == v) (g (draw_arc b k))) (ends.draw_to k m)),
    )
  where
    f : ℕ → ℕ
    f a = when (w.to a == v) (g a)

    none : (a : ℕ) → w.to a ≡ length b.nodes → f a ≡ 0
    none a h = when_none (w.to a == v) (g a) (ap (λ n. n == v) h ∙ differs (length b.nodes) v (λ e. absurd (omega arith)))

-- what the arcs that leave a node carry
pub node_outflow : (b : Basin) (draws : List DrawNodes) (w : Network) (g : ℕ → ℕ) (v : ℕ) → HasCourseEnds b draws w →
    v < length b.nodes → outflow w g v ≡ total_where (length b.links) (λ e. tail_of b e == v) g
    + (g (take_arc b v) + (g (out_arc b v) + tails_at draws (λ k. g (draw_arc b k)) v))
node_outflow b draws w g v ends l =
    omega (
      arith,
      ap (λ n. total n f) ends.arcs,
      arcs_total b (length draws) f,
      total_same (length b.links) f (λ e. when (tail_of b e == v) (g e))
          (λ e k. ap (λ n. when (n == v) (g e)) (ends.link_from e k)),
      total_pick (length b.nodes) v (λ n. f (take_arc b n)) l
          (λ n k ne. other (take_arc b n) n (ends.take_from n k) ne),
      here (take_arc b v) (ends.take_from v l),
      total_pick (length b.nodes) v (λ n. f (out_arc b n)) l (λ n k ne. other (out_arc b n) n (ends.out_from n k) ne),
      here (out_arc b v) (ends.out_from v l),
      total_same (length draws) (λ k. f (draw_arc b k)) (λ k. when (diversion_of draws k == v) (g (draw_arc b k)))
          (λ k m. ap (λ n. when (n == v) (g (draw_arc b k))) (ends.draw_from k m)),
    )
  where
    f : ℕ → ℕ
    f a = when (w.from a == v) (g a)

    other : (a n : ℕ) → w.from a ≡ n → n ≢ v → f a ≡ 0
    other a n h ne = when_none (w.from a == v) (g a) (ap (λ m. m == v) h ∙ differs n v ne)

    here : (a : ℕ) → w.from a ≡ v → f a ≡ g a
    here a h = ap (λ (t : Bool). when t (g a)) (ap (λ m. m == v) h ∙ itself v)

-- what moves over the arcs of draws is to a node as what was drawn is: a draw at its own reservoir gives the node what
-- it takes from it
pub moved_balance : (m : MonthDraws) (v : ℕ) → v < length m.basin.nodes →
    left_at m v + tails_at m.draws (moved m) v ≡ drawn_at m v + heads_at m.basin m.draws (moved m) v
moved_balance m v l =
    omega (
      arith,
      total_add (length m.draws) (λ k. when (reservoir_of m.draws k == v) (slice_index m.drawn k))
          (λ k. when (diversion_of m.draws k == v) (moved m k)),
      total_add (length m.draws) (λ k. when (diversion_of m.draws k == v) (slice_index m.drawn k))
          (λ k. when (draw_head m.basin m.draws k == v) (moved m k)),
      total_same (length m.draws) _ _ (λ k _. of_draw (diversion_of m.draws k) (reservoir_of m.draws k)
          (slice_index m.drawn k)),
    )
  where
    of_draw : (d r x : ℕ) →
        when (r == v) x + when (d == v) (if d == r then 0 else x)
        ≡ when (d == v) x + when ((if d == r then length m.basin.nodes else r) == v) (if d == r then 0 else x)
    of_draw d r x = elim (eqb_tells d r) [
      | inl same ↦ own d r x same.1 same.0
      | inr other ↦ apart d r x other.0
    ]
      where
        none : (t : Bool) → when t 0 ≡ 0
        none true = refl
        none false = refl

        own : (d r x : ℕ) → d ≡ r → d == r ≡ true →
            when (r == v) x + when (d == v) (if d == r then 0 else x)
            ≡ when (d == v) x + when ((if d == r then length m.basin.nodes else r) == v) (if d == r then 0 else x)
        own d r x e h = rw h (omega (
          arith,
          ap (λ n. when (n == v) x) e,
          none (d == v),
          none (length m.basin.nodes == v),
        ))

        apart : (d r x : ℕ) → d == r ≡ false →
            when (r == v) x + when (d == v) (if d == r then 0 else x)
            ≡ when (d == v) x + when ((if d == r then length m.basin.nodes else r) == v) (if d == r then 0 else x)
        apart d r x h = rw h (omega arith)
