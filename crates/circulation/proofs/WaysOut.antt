-- Ranks that rise along arcs: what an arc carries is little, and arcs with room lead out.
use Rattle.std.proofs.Common.{◌≡◌, ◌≢◌, ℕ, zero, suc, ◌+◌, ◌<◌, ◌≤◌, Bool, true, false, not, nat_lt, ◌&&◌, ◌⊎◌, ap, arith}
use Rattle.std.proofs.Common.{refl, List, [], ◌∷◌, inl, inr}
use Rattle.std.proofs.lemmas.Bool.{cases_lt}
use Rattle.std.proofs.lemmas.Bool.Decides.{nat_tests}
use Rattle.std.specs.Prelude.{nat_le}
use Rattle.finite_sums.specs.Sums.{total, greatest_where, when}
use Rattle.finite_sums.proofs.Totals.{total_le, term_le_total, term_le_greatest}
use Rattle.circulation.specs.Network.{Network, IsFlow, LeadsOut, enters, leaves}
use Rattle.circulation.proofs.Cuts.{crossing}

-- the basin nodes whose ranks are no greater than that of a node
pub up_to : Network → (ℕ → ℕ) → ℕ → ℕ → Bool
up_to w rank v n = nat_lt n w.nodes && nat_le (rank n) (rank v)

beyond : (v n : ℕ) (t : Bool) → n ≤ v → nat_lt v n && t ≡ false
beyond v n t k = grind (arith, nat_tests)

-- an arc that comes to a basin node from one of no greater rank brings nothing in there
pub none_enters : (w : Network) (rank g : ℕ → ℕ) (v a : ℕ) →
    (w.to a < w.nodes → (w.from a < w.nodes) × (rank (w.from a) ≤ rank (w.to a))) →
    when (enters w (up_to w rank v) a) (g a) ≡ 0
unfolding up_to
none_enters w rank g v a rises = ap (λ (t : Bool). when t (g a)) (elim (cases_lt (w.to a) w.nodes) [
  | inl inner ↦ let up = rises inner in
      runs_on (w.from a) w.nodes (rank (w.from a)) (rank (w.to a)) (rank v) (w.to a) up.1 up.0
  | inr outer ↦ first (nat_lt (w.to a) w.nodes && nat_le (rank (w.to a)) (rank v)) (not (up_to w rank v (w.from a)))
      (beyond (w.to a) w.nodes (nat_le (rank (w.to a)) (rank v)) outer)
])
  where
    -- where the head is not after, the tail is not after either
    runs_on : (t n r s q v : ℕ) → r ≤ s → t < n → (nat_lt v n && nat_le s q) && not (nat_lt t n && nat_le r q) ≡ false
    runs_on t n r s q v h k = grind (arith, nat_tests)

    first : (p q : Bool) → p ≡ false → p && q ≡ false
    first p q h = grind (arith, nat_tests)

-- where an arc leads to a basin node, it comes from one of lesser rank
abbrev pub Rises : Network → (ℕ → ℕ) → ℕ → Type 0
Rises w rank a = w.to a < w.nodes → (w.from a < w.nodes) × (rank (w.from a) < rank (w.to a))

-- an arc from a basin node carries no more than the whole supply, and what comes in to the nodes up to its tail
pub carries_at_most : {w : Network} {g : ℕ → ℕ} (rank : ℕ → ℕ) (a : ℕ) → IsFlow w g → a < w.arcs → w.from a < w.nodes →
    Rises w rank a →
    g a ≤ total w.nodes w.supply + total w.arcs (λ x. when (enters w (up_to w rank (w.from a)) x) (g x))
unfolding up_to
carries_at_most {w} {g} rank a flow l inside rises =
    let y = up_to w rank (w.from a) in
    let cross = crossing w y g (λ v k. beyond v w.nodes (nat_le (rank v) (rank (w.from a))) k) flow in
    let one = term_le_total w.arcs (λ x. when (leaves w y x) (g x)) a l in
    let some = total_le w.nodes (λ v. when (y v) (w.supply v)) w.supply (λ v k. at_most (y v) (w.supply v)) in
    omega (arith, cross, one, ap (λ (t : Bool). when t (g a)) out, some)
  where
    at_most : (t : Bool) (x : ℕ) → when t x ≤ x
    at_most true x = omega arith
    at_most false x = omega arith

    both : (p q : Bool) → p ≡ true → q ≡ false → p && not q ≡ true
    both p q h i = grind (arith, nat_tests)

    here : (v n r : ℕ) → v < n → nat_lt v n && nat_le r r ≡ true
    here v n r k = grind (arith, nat_tests)

    after : (v n r q : ℕ) → q < r → nat_lt v n && nat_le r q ≡ false
    after v n r q k = grind (arith, nat_tests)

    out : leaves w (up_to w rank (w.from a)) a ≡ true
    out = both (nat_lt (w.from a) w.nodes && nat_le (rank (w.from a)) (rank (w.from a)))
        (nat_lt (w.to a) w.nodes && nat_le (rank (w.to a)) (rank (w.from a)))
        (here (w.from a) w.nodes (rank (w.from a)) inside) (elim (cases_lt (w.to a) w.nodes) [
          | inl inner ↦ after (w.to a) w.nodes (rank (w.to a)) (rank (w.from a)) (rises inner).1
          | inr outer ↦ beyond (w.to a) w.nodes (nat_le (rank (w.to a)) (rank (w.from a))) outer
        ])

-- an arc other than r, with room in every flow, leads from a node to the outside or to a node of greater rank
pub record LeadsOn (w : Network) (r : ℕ) (rank : ℕ → ℕ) (v : ℕ) : Type 0 where
  pub arc : ℕ
  pub below : arc < w.arcs
  pub from : w.from arc ≡ v
  pub other : arc ≢ r
  pub room : (g : ℕ → ℕ) → IsFlow w g → g arc < w.upper arc
  pub to : (w.to arc ≡ w.nodes) ⊎ ((w.to arc < w.nodes) × (rank v < rank (w.to arc)))

-- where such an arc leads from each basin node of a rank not below one, such a path leads out from each
pub way_out : (w : Network) (r : ℕ) (rank : ℕ → ℕ) (low : ℕ) →
    ((v : ℕ) → v < w.nodes → low ≤ rank v → LeadsOn w r rank v) →
    (v : ℕ) → v < w.nodes → low ≤ rank v → (path : List ℕ) × LeadsOut w r v path
way_out w r rank low on v l up = by_fuel (suc (greatest_where w.nodes (λ n. true) rank)) v l up (omega arith)
  where
    by_fuel : (fuel v : ℕ) → v < w.nodes → low ≤ rank v → greatest_where w.nodes (λ n. true) rank < rank v + fuel →
        (path : List ℕ) × LeadsOut w r v path
    by_fuel zero v l up enough = absurd (omega (arith, term_le_greatest w.nodes (λ n. true) rank v l refl))
    by_fuel (suc fuel) v l up enough =
        let next = on v l up in
        elim next.to [
          | inl out ↦ (next.arc ∷ [], (next.below, next.from, next.other, next.room, out))
          | inr further ↦
              let rest = by_fuel fuel (w.to next.arc) further.0 (omega (arith, further.1)) (omega (arith, further.1)) in
              (next.arc ∷ rest.0, (next.below, next.from, next.other, next.room, rest.1))
        ]
