-- A cut bounds the flow of an arc, and is tight where nothing crosses it.
use Rattle.std.proofs.Common.{ℕ, Bool, true, false, not, ◌==◌, ◌&&◌, ◌≡◌, ◌≢◌, ◌+◌, ◌<◌, ◌≤◌, refl, arith, ap, sym}
use Rattle.std.proofs.Common.{inl, inr, ◌∙◌}
use Rattle.std.proofs.lemmas.Bool.{ne_eqb, eqb-false, not-true, cases_lt, and_from, and_parts}
use Rattle.std.proofs.lemmas.Bool.Decides.{nat_tests}
use Rattle.finite_sums.specs.Sums.{total, when}
use Rattle.finite_sums.proofs.Terms.{terms_equal_where, same_where}
use Rattle.finite_sums.proofs.Totals.{total_same, total_zero, total_add, total_change, total_exchange, total_pick}
use Rattle.finite_sums.proofs.Totals.{total_where_le}
use Rattle.circulation.specs.Network.{Network, IsFlow, IsCut, IsTight, IsGreatestCut, inflow, enters, leaves}
use Rattle.circulation.specs.Network.{cut_out}

-- over the basin nodes in a set, the one that is the end of an arc
at_arc : (w : Network) (y : ℕ → Bool) (u x : ℕ) → ((v : ℕ) → w.nodes ≤ v → y v ≡ false) →
    total w.nodes (λ v. when (y v) (when (u == v) x)) ≡ when (y u) x
at_arc w y u x basin = elim (cases_lt u w.nodes) [
  | inl b ↦ total_pick w.nodes u (λ v. when (y v) (when (u == v) x)) b (λ v c ne. off (y v) u v x (λ e. ne (sym e)))
      ∙ on (y u) u x
  | inr b ↦ total_zero w.nodes (λ v. when (y v) (when (u == v) x)) (λ v c. off (y v) u v x (λ e. omega arith))
      ∙ sym (ap (λ (t : Bool). when t x) (basin u b))
]
  where
    off : (t : Bool) (u v x : ℕ) → u ≢ v → when t (when (u == v) x) ≡ 0
    off t u v x ne = grind (arith, nat_tests)

    on : (t : Bool) (u x : ℕ) → when t (when (u == u) x) ≡ when t x
    on t u x = grind (arith, nat_tests)

-- the sums at the nodes of a set are a sum over the arcs with an end in it
at_nodes : (w : Network) (y : ℕ → Bool) (key g : ℕ → ℕ) → ((v : ℕ) → w.nodes ≤ v → y v ≡ false) →
    total w.nodes (λ v. when (y v) (total w.arcs (λ a. when (key a == v) (g a))))
    ≡ total w.arcs (λ a. when (y (key a)) (g a))
at_nodes w y key g basin =
    total_same w.nodes _ _ (λ v b. within (y v) w.arcs (λ a. when (key a == v) (g a)))
    ∙ total_exchange w.nodes w.arcs (λ v a. when (y v) (when (key a == v) (g a)))
    ∙ total_same w.arcs _ _ (λ a b. at_arc w y (key a) (g a) basin)
  where
    within : (b : Bool) (n : ℕ) (f : ℕ → ℕ) → when b (total n f) ≡ total n (λ k. when b (f k))
    within true n f = refl
    within false n f = sym (total_zero n (λ k. 0) (λ k b. refl))

-- what is supplied in a set and enters it leaves it
pub crossing : (w : Network) (y : ℕ → Bool) (g : ℕ → ℕ) → ((v : ℕ) → w.nodes ≤ v → y v ≡ false) → IsFlow w g →
    total w.nodes (λ v. when (y v) (w.supply v)) + total w.arcs (λ a. when (enters w y a) (g a)) ≡ total w.arcs
    (λ a. when (leaves w y a) (g a))
crossing w y g basin flow =
    let nodes = total_add w.nodes (λ v. when (y v) (w.supply v)) (λ v. when (y v) (inflow w g v)) in
    let balanced = total_same w.nodes _ _ (λ v b. tested (y v) (w.supply v) (inflow w g v) _ (flow.balanced v b)) in
    let into = total_add w.arcs (λ a. when (enters w y a) (g a)) (λ a. when (y (w.from a)) (g a)) in
    let out = total_add w.arcs (λ a. when (leaves w y a) (g a)) (λ a. when (y (w.to a)) (g a)) in
    let across = total_same w.arcs _ _ (λ a b. either (y (w.from a)) (y (w.to a)) (g a)) in
    omega (arith, nodes, balanced, into, out, across, at_nodes w y w.to g basin, at_nodes w y w.from g basin)
  where
    tested : (b : Bool) (x y z : ℕ) → x + y ≡ z → when b x + when b y ≡ when b z
    tested true x y z e = e
    tested false x y z e = refl

    either : (p q : Bool) (x : ℕ) → when (q && not p) x + when p x ≡ when (p && not q) x + when q x
    either true true x = refl
    either true false x = omega arith
    either false true x = omega arith
    either false false x = refl

-- a sum without the term of r
pub without : (n r : ℕ) (p : ℕ → Bool) (f : ℕ → ℕ) → r < n → p r ≡ true →
    total n (λ a. when (p a) (f a)) ≡ f r + total n (λ a. when (p a && not (a == r)) (f a))
without n r p f b own =
    let change = total_change n r (λ a. when (p a) (f a)) (λ a. when (p a && not (a == r)) (f a)) b
    (λ a c ne. other (p a) a r (f a) ne) in
    omega (arith, change, ap (λ (t : Bool). when t (f r)) own, none (p r) r (f r))
  where
    other : (p : Bool) (a r x : ℕ) → a ≢ r → when p x ≡ when (p && not (a == r)) x
    other p a r x ne = grind (arith, nat_tests)

    none : (p : Bool) (r x : ℕ) → when (p && not (r == r)) x ≡ 0
    none p r x = grind (arith, nat_tests)

-- the test of an arc that leaves the set and is not r
abbrev others : Network → (ℕ → Bool) → ℕ → ℕ → Bool
others w y r a = leaves w y a && not (a == r)

-- an arc that leaves and is not r passes
other_is : (p : Bool) (a r : ℕ) → p ≡ true → a ≢ r → (p && not (a == r)) ≡ true
other_is p a r e ne = and_from p (not (a == r)) e (ap not (ne_eqb a r ne))

-- and no other does
is_other : (p : Bool) (a r : ℕ) → (p && not (a == r)) ≡ true → (p ≡ true) × (a ≢ r)
is_other p a r e = let parts = and_parts p (not (a == r)) e in (parts.0, eqb-false a r (not-true (a == r) parts.1))

-- what is supplied in a cut of r and enters it is what leaves it, of which r has its own part
cut_balance : (w : Network) (r : ℕ) (y : ℕ → Bool) (g : ℕ → ℕ) → r < w.arcs → IsCut w r y → IsFlow w g →
    total w.nodes (λ v. when (y v) (w.supply v)) + total w.arcs (λ a. when (enters w y a) (g a)) ≡ g r +
    total w.arcs (λ a. when (others w y r a) (g a))
cut_balance w r y g b cut flow = crossing w y g cut.basin flow ∙ without w.arcs r (leaves w y) g b
    (and_from (y (w.from r)) (not (y (w.to r))) cut.tail (ap not cut.head))

-- what enters a cut is within the upper bounds, and what leaves it above the lower ones
cut_bounds : (w : Network) (r : ℕ) (y : ℕ → Bool) (g : ℕ → ℕ) → IsFlow w g →
    (total w.arcs (λ a. when (enters w y a) (g a)) ≤ total w.arcs (λ a. when (enters w y a) (w.upper a))) ×
    (cut_out w r y ≤ total w.arcs (λ a. when (others w y r a) (g a)))
cut_bounds w r y g flow = (
  total_where_le w.arcs (enters w y) (enters w y) g w.upper (λ a c e. (e, flow.high a c)),
  total_where_le w.arcs (others w y r) (others w y r) w.lower g (λ a c e. (e, flow.low a c)),
)

-- where a cut is tight, no flow of the arc is greater
pub tight-greatest : (w : Network) (r : ℕ) (y : ℕ → Bool) (g h : ℕ → ℕ) → r < w.arcs → IsTight w g r y → IsFlow w h →
    h r ≤ g r
tight-greatest w r y g h b tight flow =
    let bounds = cut_bounds w r y h flow in
    omega (arith, cut_balance w r y h b tight.cut flow, bounds.0, bounds.1, tight.equal)

-- the flow of r can rise only by what the arcs across the cut have left, which is at most d for each
pub record IsNearlyTight (w : Network) (g : ℕ → ℕ) (r d : ℕ) (y : ℕ → Bool) : Type 0 where
  pub cut : IsCut w r y
  pub full : (a : ℕ) → a < w.arcs → enters w y a ≡ true → w.upper a ≤ g a + d
  pub empty : (a : ℕ) → a < w.arcs → leaves w y a ≡ true → a ≢ r → g a ≤ w.lower a + d

-- a cut is tight where they have nothing left
pub tight_from : {w : Network} {r : ℕ} {y : ℕ → Bool} {g : ℕ → ℕ} → r < w.arcs → IsFlow w g →
    IsNearlyTight w g r 0 y → IsTight w g r y
tight_from {w} {r} {y} {g} b flow near =
    let entering = same_where w.arcs (enters w y) g w.upper (λ a c e. omega (arith, near.full a c e, flow.high a c)) in
    let leaving = same_where w.arcs (others w y r) g w.lower (λ a c e.
    let other = is_other (leaves w y a) a r e in
    omega (arith, near.empty a c other.0 other.1, flow.low a c)) in
    record { cut = near.cut; equal = omega (arith, cut_balance w r y g b near.cut flow, entering, leaving) }

-- and they have nothing left where a cut is tight
pub tight_full : {w : Network} {r : ℕ} {y : ℕ → Bool} {g : ℕ → ℕ} → r < w.arcs → IsFlow w g → IsTight w g r y →
    IsNearlyTight w g r 0 y
tight_full {w} {r} {y} {g} b flow tight =
    let balance = cut_balance w r y g b tight.cut flow in
    let bounds = cut_bounds w r y g flow in
    let full = terms_equal_where w.arcs (enters w y) g w.upper (λ a c _. flow.high a c)
    (omega (arith, balance, bounds.0, bounds.1, tight.equal)) in
    let empty = terms_equal_where w.arcs (others w y r) w.lower g (λ a c _. flow.low a c)
    (omega (arith, balance, bounds.0, bounds.1, tight.equal)) in
    record {
      cut = tight.cut;
      full = λ a c e. omega (arith, full a c e);
      empty = λ a c e ne. omega (arith, empty a c (other_is (leaves w y a) a r e ne));
    }

-- the lower bound of the arc itself says nothing of its cuts
tight_held : {w : Network} (lower : ℕ → ℕ) {r : ℕ} {g : ℕ → ℕ} {y : ℕ → Bool} →
    ((a : ℕ) → a ≢ r → lower a ≡ w.lower a) → IsTight (record w { lower = lower }) g r y → IsTight w g r y
tight_held {w} lower {r} {g} {y} same tight = record {
  cut = record { basin = tight.cut.basin; tail = tight.cut.tail; head = tight.cut.head };
  equal = tight.equal ∙ ap (λ (n : ℕ). g r + n)
      (same_where w.arcs (others w y r) lower w.lower (λ a c e. same a (is_other (leaves w y a) a r e).1));
}

-- nor does it of the greatest
pub cut_held : {w : Network} (lower : ℕ → ℕ) {r : ℕ} {g : ℕ → ℕ} {y : ℕ → Bool} →
    ((a : ℕ) → a ≢ r → lower a ≡ w.lower a) → IsGreatestCut (record w { lower = lower }) g r y → IsGreatestCut w g r y
cut_held {w} lower same cut = record {
  tight = tight_held lower same cut.tight;
  greatest = λ z tight. cut.greatest z
      (tight_held {w = record w { lower = lower }} w.lower (λ a ne. sym (same a ne)) tight);
}
