-- How much a flow can still rise when a search over rooms of at least `least` is done.
use Rattle.std.proofs.Common.{ℕ, min, ◌^◌, ◌/◌, zero, suc, Bool, true, false, not, nat_lt, ◌==◌, ◌&&◌, ◌≡◌, ◌≢◌, ◌+◌}
use Rattle.std.proofs.Common.{◌⊎◌, ◌-◌, ◌*◌, ◌<◌, ◌≤◌, refl, arith, ap, inl, inr, ◌∙◌, add-one}
use Rattle.std.proofs.Math.Nat.{mul-le-mul_left, mul-le-mul_right, pow-suc}
use Rattle.std.proofs.Math.Pow.{pow_mono}
use Rattle.std.proofs.lemmas.Bool.{eqb-false, lt-ltb, not-true, cases_lt, cases_eq, and_from, and_parts, both_ways}
use Rattle.std.proofs.lemmas.Bool.Decides.{nat_tests}
use Rattle.finite_sums.specs.Sums.{total, when}
use Rattle.circulation.specs.Network.{Network, IsFlow, HasEnds, enters, leaves}
use Rattle.finite_sums.proofs.Totals.{total_le, total_add, term_le_total}
use Rattle.augment.specs.Raised.{open_arcs}
use Rattle.augment.specs.Search.{IsTree, IsClosed}
use Rattle.circulation.proofs.Cuts.{crossing, without}
use Rattle.circulation.proofs.Unmarked.{unmarked, in_basin, crosses, nearly_tight}
use Rattle.augment.proofs.Trees.{shut_from}

-- a number for each index that passes
total-counted : (n d : ℕ) (p : ℕ → Bool) → total n (λ k. when (p k) d) ≡ total n (λ k. when (p k) 1) * d
unfolding total
total-counted zero d p = omega arith
total-counted (suc n) d p = omega (arith, total-counted n d p, one (p n))
  where
    one : (t : Bool) → when t d ≡ when t 1 * d
    one true = omega arith
    one false = omega arith

-- two sets of arcs that have no arc in common
disjoint_sum : (n : ℕ) (d : ℕ → ℕ) (p q : ℕ → Bool) → ((a : ℕ) → a < n → when (p a) (d a) + when (q a) (d a) ≤ d a) →
    total n (λ a. when (p a) (d a)) + total n (λ a. when (q a) (d a)) ≤ total n d
disjoint_sum n d p q h =
    let both = total_le n (λ a. when (p a) (d a) + when (q a) (d a)) d h in
    omega (arith, both, total_add n (λ a. when (p a) (d a)) (λ a. when (q a) (d a)))

-- terms of which one is at most d more than the other, where the test holds
when-slack : (b : Bool) (x y d : ℕ) → (b ≡ true → x ≤ y + d) → when b x ≤ when b y + when b d
when-slack true x y d h = h refl
when-slack false x y d h = omega arith

-- sums of terms of which one is at most d more than the other
total-slack : (n : ℕ) (d : ℕ → ℕ) (p : ℕ → Bool) (f g : ℕ → ℕ) → ((a : ℕ) → a < n → p a ≡ true → f a ≤ g a + d a) →
    total n (λ a. when (p a) (f a)) ≤ total n (λ a. when (p a) (g a)) + total n (λ a. when (p a) (d a))
total-slack n d p f g h =
    let each = total_le n (λ a. when (p a) (f a)) (λ a. when (p a) (g a) + when (p a) (d a))
    (λ a b. when-slack (p a) (f a) (g a) (d a) (h a b)) in
    omega (arith, each, total_add n (λ a. when (p a) (g a)) (λ a. when (p a) (d a)))

-- an arc that carries nothing in any flow leaves no room
abbrev room_by : Network → ℕ → ℕ → ℕ
room_by w d a = when (nat_lt 0 (w.upper a)) d

open_room : (upper d x y : ℕ) → x ≤ upper → x ≤ y + d → x ≤ y + when (nat_lt 0 upper) d
open_room upper d x y most room = elim (cases_lt 0 upper) [
  | inl some ↦ omega (arith, room, ap (λ (t : Bool). when t d) (lt-ltb 0 upper some))
  | inr none ↦ omega (arith, most)
]

-- an arc does not cross a set both ways
apart_way : (t f e : Bool) (d : ℕ) → when (t && not f) d + when (f && not t && e) d ≤ d
apart_way true true e d = omega arith
apart_way true false e d = omega arith
apart_way false true true d = omega arith
apart_way false true false d = omega arith
apart_way false false e d = omega arith

-- r crosses a set one way: arcs that cross it as r does carry little more than they must, and those the other way are
-- nearly full
rise_over : (w : Network) (r d : ℕ) (along against : ℕ → Bool) (g h : ℕ → ℕ) (inner outer : ℕ) → r < w.arcs →
    along r ≡ true → IsFlow w g → IsFlow w h →
    ((a x : ℕ) → when (against a) x + when (along a && not (a == r)) x ≤ x) →
    inner + total w.arcs (λ a. when (against a) (g a)) ≡ outer + total w.arcs (λ a. when (along a) (g a)) →
    inner + total w.arcs (λ a. when (against a) (h a)) ≡ outer + total w.arcs (λ a. when (along a) (h a)) →
    ((a : ℕ) → a < w.arcs → against a ≡ true → w.upper a ≤ g a + d) →
    ((a : ℕ) → a < w.arcs → along a ≡ true → a ≢ r → g a ≤ w.lower a + d) → h r ≤ g r + open_arcs w * d
rise_over w r d along against g h inner outer b own fg fh apart cross_g cross_h full empty =
    let part_g = without w.arcs r along g b own in
    let part_h = without w.arcs r along h b own in
    let back = total-slack w.arcs (room_by w d) against h g
    (λ a c e. open_room (w.upper a) d (h a) (g a) (fh.high a c) (omega (arith, full a c e, fh.high a c))) in
    let forth = total-slack w.arcs (room_by w d) (λ a. along a && not (a == r)) g h (λ a c e.
    let parts = and_parts (along a) (not (a == r)) e in
    open_room (w.upper a) d (g a) (h a) (fg.high a c)
    (omega (arith, empty a c parts.0 (eqb-false a r (not-true (a == r) parts.1)), fh.low a c))) in
    let slack = disjoint_sum w.arcs (room_by w d) against (λ a. along a && not (a == r))
    (λ a c. apart a (room_by w d a)) in
    omega (
      arith,
      cross_g,
      cross_h,
      part_g,
      part_h,
      back,
      forth,
      slack,
      total-counted w.arcs d (λ a. nat_lt 0 (w.upper a)),
    )

-- the test of a reached basin node
inside_is : (v n x : ℕ) → (nat_lt v n && nat_lt 0 x) ≡ true → 0 < x
inside_is v n x e = grind (arith, nat_tests)

inside_from : (v n x : ℕ) → v < n → 0 < x → (nat_lt v n && nat_lt 0 x) ≡ true
inside_from v n x b some = grind (arith, nat_tests)

inside_not : (v n x : ℕ) → (n ≤ v) ⊎ (x ≡ 0) → (nat_lt v n && nat_lt 0 x) ≡ false
inside_not v n x either = grind (arith, nat_tests)

-- a node that fails it was not reached, where the outside was not
not_inside : (nodes : ℕ) (position : ℕ → ℕ) (v : ℕ) → v ≤ nodes → position nodes ≡ 0 →
    (nat_lt v nodes && nat_lt 0 (position v)) ≡ false → position v ≡ 0
not_inside nodes position v b outside e = elim (cases_eq (position v) 0) [
  | inl none ↦ none
  | inr some ↦ absurd (both_ways _ e (inside_from v nodes (position v)
      (in_basin nodes position v b (omega (arith, outside))) (omega arith)))
]

-- when nothing more is reached over rooms of at least `least`, the flow of r can rise by less than that for each arc
pub remaining_rise : {w : Network} {g h : ℕ → ℕ} {r least : ℕ} {position node step : ℕ → ℕ} {size : ℕ} →
    r < w.arcs → HasEnds w → IsFlow w g → IsFlow w h → IsTree w g r least position node step size →
    IsClosed w g r least position → position (w.from r) ≡ 0 → h r ≤ g r + open_arcs w * (least - 1)
remaining_rise {w} {g} {h} {r} {least} {position} b ends fg fh t closed none =
    let shut = shut_from ends t closed none in
    elim (cases_eq (position w.nodes) 0) [
      | inl outside ↦
          let y : ℕ → Bool = λ v. nat_lt v w.nodes && nat_lt 0 (position v) in
          let basin = λ (v : ℕ) (c : w.nodes ≤ v). inside_not v w.nodes (position v) (inl c) in
          let inner = in_basin w.nodes position (w.to r) (ends.to_in r b) (omega (arith, outside, shut.head)) in
          rise_over w r (least - 1) (enters w y) (leaves w y) g h 0 (total w.nodes (λ v. when (y v) (w.supply v))) b
          (and_from _ _ (inside_from (w.to r) w.nodes _ inner shut.head)
          (ap not (inside_not (w.from r) w.nodes _ (inr none))))
          fg fh (λ a x. apart_way (y (w.from a)) (y (w.to a)) (not (a == r)) x)
          (omega (arith, crossing w y g basin fg)) (omega (arith, crossing w y h basin fh))
          (λ a c e.
          let across = crosses _ _ e in
          shut.full a c (inside_is _ w.nodes _ across.0)
          (not_inside w.nodes position _ (ends.to_in a c) outside across.1))
          (λ a c e ne.
          let across = crosses _ _ e in
          shut.empty a c ne (inside_is _ w.nodes _ across.0)
          (not_inside w.nodes position _ (ends.from_in a c) outside across.1))
      | inr reached ↦
          let y = unmarked w.nodes position in
          let near = nearly_tight b ends (omega arith) shut in
          rise_over w r (least - 1) (leaves w y) (enters w y) g h (total w.nodes (λ v. when (y v) (w.supply v))) 0 b
          (and_from (y (w.from r)) (not (y (w.to r))) near.cut.tail (ap not near.cut.head)) fg fh
          (λ a x. apart_way (y (w.to a)) (y (w.from a)) (not (a == r)) x)
          (omega (arith, crossing w y g near.cut.basin fg)) (omega (arith, crossing w y h near.cut.basin fh))
          near.full near.empty
    ]

-- pushes of a phase: each but the last raises the flow by `least`, and it can rise by at most `arcs * (2 * least - 1)`
phase_pushes : (least arcs pushes rise : ℕ) → 0 < least → pushes * least ≤ rise → rise ≤ arcs * (2 * least - 1) →
    pushes ≤ 2 * arcs
phase_pushes least arcs pushes rise some each limit = elim (cases_lt (2 * arcs) pushes) [
  | inl more ↦
      let steps : (2 * arcs + 1) * least ≤ pushes * least = mul-le-mul_right least (omega arith) in
      let most : arcs * (2 * least - 1) ≤ arcs * (2 * least) = mul-le-mul_left arcs (omega arith) in
      absurd (omega arith)
  | inr fits ↦ fits
]

-- one more push in a phase
pub phase_next : (least arcs start before after from now next want : ℕ) → 0 < least → start ≤ before →
    after ≡ before + 1 → (before - start) * least + from ≤ now → now ≤ from + arcs * (2 * least - 1) → now < want →
    now + min least (want - now) ≤ next →
    (after ≤ start + (2 * arcs + 1)) × (next < want → (after - start) * least + from ≤ next)
phase_next least arcs start before after from now next want some order step each reach less wide =
    let count : before - start ≤ 2 * arcs = phase_pushes least arcs (before - start) (now - from) some
    (omega (arith, each)) (omega (arith, reach)) in (
      omega (arith, count, step, order),
      λ short.
          let more : after - start ≡ before - start + 1 = omega arith in
          let whole : now + least ≤ next = omega (arith, wide, short) in
          let product = ap (λ (n : ℕ). n * least) more in
          omega (arith, product, whole, each),
    )

-- a lesser power has a lesser exponent
pub power_below : (k n : ℕ) → 2 ^ k < 2 ^ n → k < n
power_below k n b = elim (cases_lt k n) [
  | inl c ↦ c
  | inr c ↦ let more : 2 ^ n ≤ 2 ^ k = pow_mono c in absurd (omega arith)
]

-- the next power of two
pub power_next : (k : ℕ) → 2 ^ (k + 1) ≡ 2 ^ k * 2
power_next k = rw add-one (pow-suc 2 k)

-- half of a power of two
pub power_half : (k x : ℕ) → 0 < k → x ≡ 2 ^ k → (x / 2 ≡ 2 ^ (k - 1)) × (2 * (x / 2) ≡ x)
power_half k x some is =
    let split : k ≡ k - 1 + 1 = omega arith in
    let twice = is ∙ ap (λ (n : ℕ). 2 ^ n) split ∙ power_next (k - 1) in
    (omega (arith, twice), omega (arith, twice))

-- the ticks of the phases so far
pub phases_cost : (count left arcs start before after : ℕ) → left < count →
    before ≤ start + (count - (left + 1)) * (2 * arcs + 1) → after ≤ before + (2 * arcs + 1) →
    after ≤ start + (count - left) * (2 * arcs + 1)
phases_cost count left arcs start before after b each more =
    let split : count - left ≡ count - (left + 1) + 1 = omega arith in
    let product = ap (λ (n : ℕ). n * (2 * arcs + 1)) split in
    omega (arith, product, each, more)

-- the cost of at most thirty phases
pub thirty : (count arcs : ℕ) → count ≤ 30 → count * (2 * arcs + 1) ≤ 30 * (2 * arcs + 1)
thirty count arcs b = mul-le-mul_right (2 * arcs + 1) b

-- an arc that may carry something is open
pub open_some : (w : Network) (a : ℕ) → a < w.arcs → 0 < w.upper a → 1 ≤ open_arcs w
open_some w a b some =
    let term = term_le_total w.arcs (λ k. when (nat_lt 0 (w.upper k)) 1) a b in
    omega (arith, term, ap (λ (t : Bool). when t 1) (lt-ltb 0 (w.upper a) some))

-- what is missing is less than twice the room of the first phase
pub first_rise : (arcs x most : ℕ) → 1 ≤ arcs → x ≤ most → x ≤ arcs * most
first_rise arcs x most some h =
    let all = mul-le-mul_right most some in
    omega (arith, all, h)
