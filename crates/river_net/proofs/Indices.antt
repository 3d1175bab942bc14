-- One more node gets its position.
use Rattle.std.proofs.Common.{◌≡◌, ◌≢◌, ℕ, ◌+◌, ◌<◌, refl, sym, ◌∙◌, ap, arith, List, [], ◌∷◌, ◌++◌, length, inl, inr}
use Rattle.std.proofs.lemmas.Bool.{cases_lt, cases_eq, le-ltb}
use Rattle.std.proofs.lemmas.Bool.Decides.{nat_tests}
use Rattle.std.proofs.lemmas.Grind.{common_steps}
use Rattle.std.specs.Prelude.{◌==◌, slice_index, nat_lt, if◌then◌else◌, ◌⊎◌}
use Rattle.finite_sums.proofs.Totals.{total_same, total_zero, total_add, total_at}
use Rattle.water_model.specs.Network.{tail_in, head_in}
use Rattle.river_net.specs.Firsts.{IsWithin}
use Rattle.river_net.specs.GraphView.{GraphView}
use Rattle.river_net.specs.Sorting.{IsPlacing}
use Rattle.finite_sums.proofs.Counts.{fewer, at_inside}

-- the positions with one more
abbrev pub with_index : (ℕ → ℕ) → ℕ → ℕ → ℕ → ℕ
with_index position v k u = if u == v then k else position u

-- the new position
pub at_index : (position : ℕ → ℕ) (v k : ℕ) → with_index position v k v ≡ k
at_index position v k = grind (arith, nat_tests)

-- the other positions
pub off_index : (position : ℕ → ℕ) (v k u : ℕ) → u ≢ v → with_index position v k u ≡ position u
off_index position v k u ne = grind (arith, nat_tests)

-- at the start no node has a position
pub placing_start : (g : GraphView) → IsPlacing g [] (λ v. g.nodes)
placing_start g = record {
  each = λ v l. inl refl;
  placed = λ k l. absurd (omega arith);
  forward = λ e l below. absurd (omega arith);
  number = total_zero g.nodes (λ v. if nat_lt g.nodes g.nodes then 1 else 0) (λ v l. no g.nodes 1);
}
  where
    no : (n x : ℕ) → (if nat_lt n n then x else 0) ≡ 0
    no n x = grind (arith, nat_tests)

-- an order has fewer nodes than there are, where a node has no position
pub room : {g : GraphView} {order : List ℕ} {position : ℕ → ℕ} (v : ℕ) → IsPlacing g order position → v < g.nodes →
    position v ≡ g.nodes → length order < g.nodes
room {g} {order} {position} v now l unplaced =
    let f = fewer g.nodes (λ u. nat_lt (position u) g.nodes) v l (le-ltb (position v) g.nodes (omega arith)) in
    omega (arith, now.number)

-- a node gets the next position, after all tails of links to it
pub placing_next : {g : GraphView} {order : List ℕ} {position : ℕ → ℕ} (v : ℕ) → IsWithin g.nodes g.links →
    IsPlacing g order position → v < g.nodes → position v ≡ g.nodes →
    ((e : ℕ) → e < length g.links → head_in g.links e ≡ v → position (tail_in g.links e) < length order) →
    IsPlacing g (order ++ v ∷ []) (with_index position v (length order))
placing_next {g} {order} {position} v within now inside unplaced tails = record {
  each = λ u l. elim (cases_eq u v) [
    | inl same ↦ (let at : position' u ≡ length order = ap position' same ∙ here in
        inr (omega (arith, count), ap (slice_index order') at ∙ last ∙ sym same))
    | inr other ↦ elim (now.each u l) [
      | inl none ↦ inl (there u other ∙ none)
      | inr placed ↦ (let p = placed.0 in let q = there u other in
          inr (omega (arith, count), ap (slice_index order') q ∙ earlier (position u) p ∙ placed.1))
    ]
  ];
  placed = λ k below. elim (cases_lt k (length order)) [
    | inl before ↦ (let p = now.placed k before in (
      (let e = earlier k before in let q = p.0 in omega arith),
      ap position' (earlier k before)
          ∙ (there (slice_index order k) (λ e. let f = ap position e in let q = p.1 in absurd (omega (arith, full)))
          ∙ p.1),
    ))
    | inr at ↦ (let e : k ≡ length order = omega (arith, count) in (
      (let f = ap (slice_index order') e in omega (arith, last)),
      ap position' (ap (slice_index order') e ∙ last) ∙ here ∙ sym e,
    ))
  ];
  forward = λ e l below. runs e l below (cases_eq (head_in g.links e) v);
  number = omega (
    arith,
    count,
    now.number,
    total_same g.nodes (λ u. if nat_lt (position' u) g.nodes then 1 else 0)
        (λ u. (if nat_lt (position u) g.nodes then 1 else 0) + (if v == u then 1 else 0)) (λ u l. counted u),
    total_add g.nodes (λ u. if nat_lt (position u) g.nodes then 1 else 0) (λ u. if v == u then 1 else 0),
    total_at g.nodes v 1,
    at_inside v g.nodes 1 inside,
  );
}
  where
    order' : List ℕ
    order' = order ++ v ∷ []

    position' : ℕ → ℕ
    position' = with_index position v (length order)

    full : length order < g.nodes
    full = room v now inside unplaced

    count : length order' ≡ length order + 1
    count = grind (arith, common_steps)

    here : position' v ≡ length order
    here = at_index position v (length order)

    there : (u : ℕ) → u ≢ v → position' u ≡ position u
    there u ne = off_index position v (length order) u ne

    last : slice_index order' (length order) ≡ v
    last = grind (arith, common_steps)

    earlier : (k : ℕ) → k < length order → slice_index order' k ≡ slice_index order k
    earlier k l = grind (arith, common_steps)

    -- a node with a position is another node
    tail_stays : (u : ℕ) → position u < length order → position' u ≡ position u
    tail_stays u l = there u (λ same. let p = ap position same in absurd (omega (arith, full)))

    runs : (e : ℕ) → e < length g.links → position' (head_in g.links e) < length order' → (head_in g.links e ≡ v) ⊎
        (head_in g.links e ≢ v) → position' (tail_in g.links e) < position' (head_in g.links e)
    runs e l below (inl at) =
        let h = ap position' at in
        let t = tails e l at in
        let s = tail_stays (tail_in g.links e) t in
        omega (arith, here)
    runs e l below (inr other) =
        let h = there (head_in g.links e) other in
        let each = now.each (head_in g.links e) (within.ends e l).1 in
        let old : position (head_in g.links e) < length order = elim each [
          | inl none ↦ absurd (omega (arith, full, count))
          | inr placed ↦ placed.0
        ] in
        let f = now.forward e l old in
        let s = tail_stays (tail_in g.links e) (omega arith) in
        omega arith

    counted : (u : ℕ) →
        (if nat_lt (position' u) g.nodes then 1 else 0) ≡ (if nat_lt (position u) g.nodes then 1 else 0) +
        (if v == u then 1 else 0)
    counted u = by_index u v (length order) g.nodes (position u) (position' u) full
        (λ e. ap position' e ∙ here) (λ e. ap position e ∙ unplaced) (there u)
      where
        by_index : (u v i n p q : ℕ) → i < n → (u ≡ v → q ≡ i) → (u ≡ v → p ≡ n) → (u ≢ v → q ≡ p) →
            (if nat_lt q n then 1 else 0) ≡ (if nat_lt p n then 1 else 0) + (if v == u then 1 else 0)
        by_index u v i n p q l a c d = grind (arith, nat_tests)
