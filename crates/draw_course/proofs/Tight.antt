-- A tight cut of a draw's arc is a stop of the draw.
use Rattle.std.proofs.Common.{◌≡◌, ◌≢◌, ℕ, ◌+◌, ◌<◌, Bool, true, false, refl, sym, ◌∙◌, ap, ap₂, arith}
use Rattle.std.proofs.Common.{List, length, inl, inr}
use Rattle.std.proofs.lemmas.Bool.{cases_eq}
use Rattle.std.proofs.lemmas.Bool.Decides.{nat_tests, eqb_tells}
use Rattle.std.specs.Prelude.{◌==◌, ◌&&◌, not, slice_index, if◌then◌else◌}
use Rattle.finite_sums.specs.Sums.{total, total_where, when}
use Rattle.finite_sums.proofs.Totals.{total_same, total_zero, total_add}
use Rattle.water_model.specs.Cuts as cuts
use Rattle.water_model.specs.Lookups.{has}
use Rattle.water_model.specs.Plans.{carry_of}
use Rattle.circulation.specs.Network.{Network, IsTight, enters, leaves, cut_in, cut_out}
use Rattle.circulation.proofs.Cuts.{without}
use Rattle.draw_course.specs.Draws.{MonthDraws, diversion_of, reservoir_of}
use Rattle.draw_course.specs.Stops.{IsStop}
use Rattle.draw_course.specs.Arcs.{take_arc, out_arc, draw_arc, draw_head}
use Rattle.draw_course.specs.MonthNetwork.{IsCourseNetwork, moved}
use Rattle.draw_course.proofs.Balances.{when_none}
use Rattle.draw_course.proofs.Parts.{arcs_total}

-- the bounds of all draws but one are what was drawn
pub record AreFixedBut (m : MonthDraws) (least most : ℕ → ℕ) (k : ℕ) : Type 0 where
  pub low : (j : ℕ) → j < length m.draws → j ≢ k → least j ≡ moved m j
  pub high : (j : ℕ) → j < length m.draws → j ≢ k → most j ≡ moved m j

-- the arc of a draw enters a set, and leaves it
draw_enters : MonthDraws → List Bool → ℕ → Bool
draw_enters m set j = has set (draw_head m.basin m.draws j) && not (has set (diversion_of m.draws j))

draw_leaves : MonthDraws → List Bool → ℕ → Bool
draw_leaves m set j = has set (diversion_of m.draws j) && not (has set (draw_head m.basin m.draws j))

off_first : (p q : Bool) → p ≡ false → p && q ≡ false
off_first p q h = grind (arith, nat_tests)

-- what comes into the cut
brings : (m : MonthDraws) (least most : ℕ → ℕ) (w : Network) (k : ℕ) (set : List Bool) →
    IsCourseNetwork m least most w → AreFixedBut m least most k → has set (length m.basin.nodes) ≡ false →
    has set (draw_head m.basin m.draws k) ≡ false →
    cut_in w (has set) ≡ total_where (length m.basin.nodes) (λ n. has set n) (λ n. slice_index m.supply n)
    + (total_where (length m.basin.links) (λ e. cuts.enters m.basin set e) (λ e. carry_of m.basin m.month e)
    + total_where (length m.draws) (draw_enters m set) (moved m))
unfolding draw_enters
brings m least most w k set net fixed outside head =
    omega (
      arith,
      ap (λ n. total n (λ v. when (has set v) (w.supply v))) net.ends.nodes,
      total_same (length m.basin.nodes) (λ v. when (has set v) (w.supply v))
          (λ v. when (has set v) (slice_index m.supply v)) (λ v l. ap (when (has set v)) (net.supplies v l)),
      ap (λ n. total n f) net.ends.arcs,
      arcs_total m.basin (length m.draws) f,
      total_same (length m.basin.links) f (λ e. when (cuts.enters m.basin set e) (carry_of m.basin m.month e)) (λ e l.
          ap₂ (λ (x z : ℕ). when (has set x && not (has set z)) (w.upper e)) (net.ends.link_to e l) (net.ends.link_from e l)
          ∙ ap (when (cuts.enters m.basin set e)) (net.link_upper e l)),
      total_zero (length m.basin.nodes) (λ n. f (take_arc m.basin n)) (λ n l. none (take_arc m.basin n)
          (net.ends.take_to n l)),
      total_zero (length m.basin.nodes) (λ n. f (out_arc m.basin n)) (λ n l. none (out_arc m.basin n)
          (net.ends.out_to n l)),
      total_same (length m.draws) (λ j. f (draw_arc m.basin j)) (λ j. when (draw_enters m set j) (moved m j)) (λ j l.
          ap₂ (λ (x z : ℕ). when (has set x && not (has set z)) (w.upper (draw_arc m.basin j))) (net.ends.draw_to j l)
          (net.ends.draw_from j l) ∙ drawn j l),
    )
  where
    f : ℕ → ℕ
    f a = when (enters w (has set) a) (w.upper a)

    none : (a : ℕ) → w.to a ≡ length m.basin.nodes → f a ≡ 0
    none a e = when_none (enters w (has set) a) (w.upper a)
        (off_first (has set (w.to a)) (not (has set (w.from a))) (ap (has set) e ∙ outside))

    drawn : (j : ℕ) → j < length m.draws → when (draw_enters m set j) (w.upper (draw_arc m.basin j))
        ≡ when (draw_enters m set j) (moved m j)
    drawn j l = elim (cases_eq j k) [
      | inl e ↦ (let shut : draw_enters m set j ≡ false = off_first (has set (draw_head m.basin m.draws j))
          (not (has set (diversion_of m.draws j))) (ap (λ j. has set (draw_head m.basin m.draws j)) e ∙ head) in
          when_none (draw_enters m set j) (w.upper (draw_arc m.basin j)) shut
          ∙ sym (when_none (draw_enters m set j) (moved m j) shut))
      | inr ne ↦ ap (when (draw_enters m set j)) (net.draw_upper j l ∙ fixed.high j l ne)
    ]

-- what has to leave it otherwise than over the arc
wants : (m : MonthDraws) (least most : ℕ → ℕ) (w : Network) (k : ℕ) (set : List Bool) →
    IsCourseNetwork m least most w → AreFixedBut m least most k → has set (length m.basin.nodes) ≡ false →
    cut_out w (draw_arc m.basin k) (has set)
    ≡ total_where (length m.basin.links) (λ e. cuts.leaves m.basin set e) (λ e. slice_index m.held e)
    + (total_where (length m.basin.nodes) (λ n. has set n) (λ n. slice_index m.taken n)
    + total_where (length m.draws) (λ j. draw_leaves m set j && not (j == k)) (moved m))
unfolding draw_leaves
wants m least most w k set net fixed outside =
    omega (
      arith,
      ap (λ n. total n f) net.ends.arcs,
      arcs_total m.basin (length m.draws) f,
      total_same (length m.basin.links) f (λ e. when (cuts.leaves m.basin set e) (slice_index m.held e)) (λ e l.
          ap₂ (λ (x z : ℕ). when (has set x && not (has set z) && not (e == draw_arc m.basin k)) (w.lower e)) (net.ends.link_from e l)
          (net.ends.link_to e l)
          ∙ ap (λ (t : Bool). when t (w.lower e)) (other (cuts.leaves m.basin set e) e (draw_arc m.basin k) (λ s. absurd (omega arith)))
          ∙ ap (when (cuts.leaves m.basin set e)) (net.link_lower e l)),
      total_same (length m.basin.nodes) (λ n. f (take_arc m.basin n)) (λ n. when (has set n) (slice_index m.taken n))
          (λ n l.
          ap₂ (λ (x z : ℕ). when (has set x && not (has set z) && not (take_arc m.basin n == draw_arc m.basin k))
          (w.lower (take_arc m.basin n)))
          (net.ends.take_from n l) (net.ends.take_to n l)
          ∙ ap (λ (t : Bool). when t (w.lower (take_arc m.basin n)))
          (other (has set n && not (has set (length m.basin.nodes))) (take_arc m.basin n) (draw_arc m.basin k) (λ s. absurd (omega arith))
          ∙ alone (has set n) (has set (length m.basin.nodes)) outside)
          ∙ ap (when (has set n)) (net.take_lower n l)),
      total_zero (length m.basin.nodes) (λ n. f (out_arc m.basin n)) (λ n l.
          ap (when (leaves w (has set) (out_arc m.basin n) && not (out_arc m.basin n == draw_arc m.basin k))) (net.out_lower n l)
          ∙ nothing (leaves w (has set) (out_arc m.basin n) && not (out_arc m.basin n == draw_arc m.basin k))),
      total_same (length m.draws) (λ j. f (draw_arc m.basin j))
          (λ j. when (draw_leaves m set j && not (j == k)) (moved m j)) (λ j l.
          ap₂ (λ (x z : ℕ). when (has set x && not (has set z) && not (draw_arc m.basin j == draw_arc m.basin k))
          (w.lower (draw_arc m.basin j)))
          (net.ends.draw_from j l) (net.ends.draw_to j l)
          ∙ drawn j l),
    )
  where
    f : ℕ → ℕ
    f a = when (leaves w (has set) a && not (a == draw_arc m.basin k)) (w.lower a)

    other : (p : Bool) (a r : ℕ) → a ≢ r → p && not (a == r) ≡ p
    other p a r ne = grind (arith, nat_tests)

    alone : (p q : Bool) → q ≡ false → p && not q ≡ p
    alone p q h = grind (arith, nat_tests)

    nothing : (t : Bool) → when t 0 ≡ 0
    nothing true = refl
    nothing false = refl

    itself : (p : Bool) (a r : ℕ) → a ≡ r → p && not (a == r) ≡ false
    itself p a r e = grind (arith, nat_tests)

    drawn : (j : ℕ) → j < length m.draws →
        when (draw_leaves m set j && not (draw_arc m.basin j == draw_arc m.basin k)) (w.lower (draw_arc m.basin j))
        ≡ when (draw_leaves m set j && not (j == k)) (moved m j)
    drawn j l = elim (cases_eq j k) [
      | inl e ↦ when_none (draw_leaves m set j && not (draw_arc m.basin j == draw_arc m.basin k)) (w.lower (draw_arc m.basin j))
          (itself (draw_leaves m set j) (draw_arc m.basin j) (draw_arc m.basin k) (ap (draw_arc m.basin) e))
          ∙ sym (when_none (draw_leaves m set j && not (j == k)) (moved m j) (itself (draw_leaves m set j) j k e))
      | inr ne ↦ ap₂ when
          (other (draw_leaves m set j) (draw_arc m.basin j) (draw_arc m.basin k) (λ s. ne (omega arith))
          ∙ sym (other (draw_leaves m set j) j k ne))
          (net.draw_lower j l ∙ fixed.low j l ne)
    ]

-- what draws in a set drew, less what was drawn on reservoirs in it, is what leaves it over arcs of draws, less what
-- enters it
drawn_across : (m : MonthDraws) (set : List Bool) →
    total_where (length m.draws) (λ j. has set (reservoir_of m.draws j)) (λ j. slice_index m.drawn j)
    + total_where (length m.draws) (draw_leaves m set) (moved m)
    ≡ total_where (length m.draws) (λ j. has set (diversion_of m.draws j)) (λ j. slice_index m.drawn j)
    + total_where (length m.draws) (draw_enters m set) (moved m)
unfolding draw_leaves draw_enters
drawn_across m set =
    omega (
      arith,
      total_add (length m.draws) (λ j. when (has set (reservoir_of m.draws j)) (slice_index m.drawn j))
          (λ j. when (draw_leaves m set j) (moved m j)),
      total_add (length m.draws) (λ j. when (has set (diversion_of m.draws j)) (slice_index m.drawn j))
          (λ j. when (draw_enters m set j) (moved m j)),
      total_same (length m.draws) _ _ (λ j _. of_draw (diversion_of m.draws j) (reservoir_of m.draws j)
          (slice_index m.drawn j)),
    )
  where
    of_draw : (d r x : ℕ) →
        when (has set r) x
        + when (has set d && not (has set (if d == r then length m.basin.nodes else r))) (if d == r then 0 else x)
        ≡ when (has set d) x
        + when (has set (if d == r then length m.basin.nodes else r) && not (has set d)) (if d == r then 0 else x)
    of_draw d r x = elim (eqb_tells d r) [
      | inl same ↦ rw same.0 (own (has set r) (has set d) (has set (length m.basin.nodes)) x
          (ap (has set) (sym same.1)))
      | inr apart ↦ rw apart.0 (either (has set d) (has set r) x)
    ]
      where
        none : (t : Bool) → when t 0 ≡ 0
        none true = refl
        none false = refl

        own : (q p s : Bool) (x : ℕ) → q ≡ p → when q x + when (p && not s) 0 ≡ when p x + when (s && not p) 0
        own q p s x e = omega (arith, ap (λ (t : Bool). when t x) e, none (p && not s), none (s && not p))

        either : (p q : Bool) (x : ℕ) → when q x + when (p && not q) x ≡ when p x + when (q && not p) x
        either true true x = refl
        either true false x = omega arith
        either false true x = omega arith
        either false false x = refl

-- a tight cut of the arc is a stop of the draw
pub tight_stop : (m : MonthDraws) (least most : ℕ → ℕ) (w : Network) (g : ℕ → ℕ) (k : ℕ) (set : List Bool) →
    IsCourseNetwork m least most w → AreFixedBut m least most k → k < length m.draws →
    diversion_of m.draws k == reservoir_of m.draws k ≡ false → g (draw_arc m.basin k) ≡ moved m k →
    length set ≡ length m.basin.nodes → IsTight w g (draw_arc m.basin k) (has set) → IsStop m k set
unfolding draw_leaves
tight_stop m least most w g k set net fixed l apart amount size tight =
    let outside : has set (length m.basin.nodes) ≡ false =
    tight.cut.basin (length m.basin.nodes) (let n = net.ends.nodes in omega arith) in
    let tail : has set (diversion_of m.draws k) ≡ true =
    ap (has set) (sym (net.ends.draw_from k l)) ∙ tight.cut.tail in
    let head : has set (draw_head m.basin m.draws k) ≡ false =
    ap (has set) (sym (net.ends.draw_to k l)) ∙ tight.cut.head in
    let to : draw_head m.basin m.draws k ≡ reservoir_of m.draws k =
    ap (λ (t : Bool). if t then length m.basin.nodes else reservoir_of m.draws k) apart in
    record {
      one_each = size;
      diversion = tail;
      reservoir = ap (has set) (sym to) ∙ head;
      tight = omega (
        arith,
        tight.equal,
        amount,
        brings m least most w k set net fixed outside head,
        wants m least most w k set net fixed outside,
        without (length m.draws) k (draw_leaves m set) (moved m) l (both _ _ tail head),
        drawn_across m set,
      );
    }
  where
    both : (p q : Bool) → p ≡ true → q ≡ false → p && not q ≡ true
    both p q h i = grind (arith, nat_tests)
