-- The basin nodes without a mark are the greatest tight cut of an arc, where steps with room lead to just the others.
use Rattle.std.proofs.Common.{ℕ, zero, suc, Bool, true, false, not, nat_lt, ◌==◌, ◌&&◌, ◌≡◌, ◌≢◌, ◌+◌, ◌-◌, ◌<◌, ◌≤◌}
use Rattle.std.proofs.Common.{◌⊎◌, arith, ap, sym, inl, inr, ◌∙◌}
use Rattle.std.proofs.lemmas.Bool.{and_from, and_parts, both_ways, cases_Bool, cases_eq, cases_lt, not-true}
use Rattle.std.proofs.lemmas.Bool.Decides.{nat_tests}
use Rattle.circulation.specs.Network.{Network, IsFlow, HasEnds, IsGreatestCut}
use Rattle.circulation.specs.Residual.{arc_of, is_backward, by_direction, start_of, end_of, room_of}
use Rattle.circulation.proofs.Cuts.{IsNearlyTight, tight_from, tight_full}
use Rattle.circulation.proofs.Overs.{start_within}

-- the basin nodes without a mark: their number is 0
abbrev pub unmarked : ℕ → (ℕ → ℕ) → ℕ → Bool
unmarked nodes mark v = nat_lt v nodes && (mark v == 0)

-- what the test says
unmarked_is : (v n x : ℕ) → (nat_lt v n && (x == 0)) ≡ true → (v < n) × (x ≡ 0)
unmarked_is v n x e = (grind (arith, nat_tests), grind (arith, nat_tests))

-- when it holds
unmarked_from : (v n x : ℕ) → v < n → x ≡ 0 → (nat_lt v n && (x == 0)) ≡ true
unmarked_from v n x b e = grind (arith, nat_tests)

-- when it fails
unmarked_not : (v n x : ℕ) → (n ≤ v) ⊎ (0 < x) → (nat_lt v n && (x == 0)) ≡ false
unmarked_not v n x either = grind (arith, nat_tests)

-- where the outside has a mark, so has each node that fails the test
marked_is : (nodes : ℕ) (mark : ℕ → ℕ) (v : ℕ) → v ≤ nodes → 0 < mark nodes → unmarked nodes mark v ≡ false → 0 < mark v
marked_is nodes mark v b outside e = elim (cases_eq v nodes) [
  | inl is ↦ omega (arith, ap mark is, outside)
  | inr ne ↦ elim (cases_eq (mark v) 0) [
    | inl none ↦ absurd (both_ways _ e (unmarked_from v nodes (mark v) (omega arith) none))
    | inr some ↦ omega arith
  ]
]

-- a node with another mark than the outside is in the basin
pub in_basin : (nodes : ℕ) (mark : ℕ → ℕ) (v : ℕ) → v ≤ nodes → mark v ≢ mark nodes → v < nodes
in_basin nodes mark v b ne = elim (cases_eq v nodes) [ inl e ↦ absurd (ne (ap mark e)) | inr other ↦ omega arith ]

-- the first test holds and the second fails
pub crosses : (p q : Bool) → (p && not q) ≡ true → (p ≡ true) × (q ≡ false)
crosses p q e = let parts = and_parts p (not q) e in (parts.0, not-true q parts.1)

-- the head of r has a mark and its tail has none, and arcs that lead from a marked node to another have at most d left
pub record AreShut (w : Network) (g : ℕ → ℕ) (r d : ℕ) (mark : ℕ → ℕ) : Type 0 where
  pub head : 0 < mark (w.to r)
  pub tail : mark (w.from r) ≡ 0
  pub full : (a : ℕ) → a < w.arcs → 0 < mark (w.from a) → mark (w.to a) ≡ 0 → w.upper a ≤ g a + d
  pub empty : (a : ℕ) → a < w.arcs → a ≢ r → 0 < mark (w.to a) → mark (w.from a) ≡ 0 → g a ≤ w.lower a + d

-- where the outside has a mark, the nodes without one are a cut across which there is little left
pub nearly_tight : {w : Network} {g : ℕ → ℕ} {r d : ℕ} {mark : ℕ → ℕ} → r < w.arcs → HasEnds w → 0 < mark w.nodes →
    AreShut w g r d mark → IsNearlyTight w g r d (unmarked w.nodes mark)
nearly_tight {w} {g} {r} {d} {mark} b ends outside s = record {
  cut = record {
    basin = λ v c. unmarked_not v w.nodes (mark v) (inl c);
    tail = unmarked_from _ w.nodes _ (in_basin w.nodes mark (w.from r) (ends.from_in r b)
        (omega (arith, s.tail, outside))) s.tail;
    head = unmarked_not (w.to r) w.nodes _ (inr s.head);
  };
  full = λ a c e.
      let across = crosses _ _ e in
      s.full a c (marked_is w.nodes mark _ (ends.from_in a c) outside across.1) (unmarked_is _ w.nodes _ across.0).1;
  empty = λ a c e ne.
      let across = crosses _ _ e in
      s.empty a c ne (marked_is w.nodes mark _ (ends.to_in a c) outside across.1) (unmarked_is _ w.nodes _ across.0).1;
}

-- a step with room leads to the node v from a marked one of lesser rank
pub record IsLedTo (w : Network) (g mark rank : ℕ → ℕ) (v s : ℕ) : Type 0 where
  pub arc : arc_of s < w.arcs
  pub enters : end_of w s ≡ v
  pub marked : 0 < mark (start_of w s)
  pub before : rank (start_of w s) < rank v
  pub room : 0 < room_of w g s

-- the outside is marked and the head of r, and the nodes to which steps with room lead from them
pub record AreReached (w : Network) (g : ℕ → ℕ) (r : ℕ) (mark : ℕ → ℕ) : Type 0 where
  pub outside : 0 < mark w.nodes
  pub shut : AreShut w g r 0 mark
  pub rank : ℕ → ℕ
  pub way : (v : ℕ) → v < w.nodes → 0 < mark v → v ≢ w.to r → (s : ℕ) × IsLedTo w g mark rank v s

-- no step with room leads into a tight cut, but to the tail of its arc
blocked : (back : Bool) {w : Network} {g : ℕ → ℕ} {r : ℕ} {z : ℕ → Bool} (a : ℕ) → IsNearlyTight w g r 0 z →
    a < w.arcs → by_direction back (w.to a) (w.from a) ≢ w.from r → z (by_direction back (w.from a) (w.to a)) ≡ false →
    0 < by_direction back (w.upper a - g a) (g a - w.lower a) → z (by_direction back (w.to a) (w.from a)) ≡ false
blocked false {w} {z = z} a near b ne out room = elim (cases_Bool (z (w.to a))) [
  | inl e ↦ absurd (omega (arith, near.full a b (and_from _ (not (z (w.from a))) e (ap not out)), room))
  | inr e ↦ e
]
blocked true {w} {z = z} a near b ne out room = elim (cases_Bool (z (w.from a))) [
  | inl e ↦ absurd (omega (
    arith,
    near.empty a b (and_from _ (not (z (w.to a))) e (ap not out)) (λ is. ne (ap w.from is)),
    room,
  ))
  | inr e ↦ e
]

-- no marked node is in a tight cut
marked_outside : (n : ℕ) {w : Network} {g : ℕ → ℕ} {r : ℕ} {mark : ℕ → ℕ} {z : ℕ → Bool} → HasEnds w →
    (m : AreReached w g r mark) → IsNearlyTight w g r 0 z → (v : ℕ) → v ≤ w.nodes → 0 < mark v → m.rank v < n →
    z v ≡ false
marked_outside zero ends m near v b some less = absurd (omega arith)
marked_outside (suc n) {w} {r = r} {mark = mark} {z = z} ends m near v b some less = elim (cases_lt v w.nodes) [
  | inl inner ↦ elim (cases_eq v (w.to r)) [
    | inl head ↦ ap z head ∙ near.cut.head
    | inr ne ↦
        let s = (m.way v inner some ne).0 in
        let led = (m.way v inner some ne).1 in
        let earlier = marked_outside n ends m near (start_of w s) (start_within w s ends led.arc) led.marked
        (omega (arith, led.before, less)) in
        sym (ap z led.enters) ∙ blocked (is_backward s) (arc_of s) near led.arc
        (λ e. omega (arith, ap mark (sym led.enters ∙ e), m.shut.tail, some)) earlier led.room
  ]
  | inr outer ↦ near.cut.basin v outer
]

-- the nodes without a mark are the greatest tight cut
pub greatest_unmarked : {w : Network} {g : ℕ → ℕ} {r : ℕ} {mark : ℕ → ℕ} → r < w.arcs → HasEnds w → IsFlow w g →
    AreReached w g r mark → IsGreatestCut w g r (unmarked w.nodes mark)
greatest_unmarked {w} {mark = mark} b ends flow m = record {
  tight = tight_from b flow (nearly_tight b ends m.outside m.shut);
  greatest = λ z tight v e. elim (cases_lt v w.nodes) [
    | inl basin ↦ elim (cases_eq (mark v) 0) [
      | inl none ↦ unmarked_from v w.nodes (mark v) basin none
      | inr some ↦ absurd (both_ways (z v)
          (marked_outside (suc (m.rank v)) ends m (tight_full b flow tight) v (omega (arith, basin)) (omega arith)
          (omega arith)) e)
    ]
    | inr outer ↦ absurd (both_ways (z v) (tight.cut.basin v outer) e)
  ];
}
