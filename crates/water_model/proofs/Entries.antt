-- The entries of a basin: how many there are, and their order.
use Rattle.std.proofs.Common.{◌≡◌, ◌≢◌, ℕ, zero, suc, ◌<◌, ◌≤◌, true, List, [], ◌∷◌, length, get_or, refl}
use Rattle.std.proofs.Common.{sym, ap, ◌∙◌, inl, inr, arith, Some, None, map}
use Rattle.std.specs.Prelude.{slice_get, All, nat_eq}
use Rattle.std.specs.List.{list_any, AllPairs}
use Rattle.std.proofs.lemmas.Bool.Decides.{nat_tests, Decides-eqb}
use Rattle.std.proofs.lemmas.Bool.{cases_Bool}
use Rattle.std.proofs.lemmas.List.{length-map}
use Rattle.std.proofs.lemmas.List.Elements.{All-tail}
use Rattle.std.proofs.lemmas.Map.Made.{IsDistinct-from_AllPairs}
use Rattle.std.proofs.lemmas.Map.Steps.{length-le_from_distinct_below}
use Rattle.std.proofs.lemmas.Option.{slice_get-get_or}
use Rattle.water_model.specs.Entries.{count_in, in_order}
use Rattle.water_model.specs.Lookups.{of_entry}
use Rattle.water_model.specs.Indices.{numbers_from, by_seniority}
use Rattle.water_model.specs.Valid.{IsValidBasin}
use Rattle.water_model.specs.declared.space.Space.{Space}
use Rattle.water_model.specs.declared.space.Space.TheVariants as space
use Rattle.water_model.specs.declared.types.Basin.{Basin}
use Rattle.water_model.specs.declared.types.Reservoir.{Reservoir}
use Rattle.water_model.proofs.Order.{Has, length-by_seniority, length-numbers_from, numbers_from-below}
use Rattle.water_model.proofs.Order.{numbers_from-get, numbers_from-has, seniors_below, seniors_have}

-- Reservoirs are at most as many as nodes, since each node has one at most.

node_at : (vs : List Reservoir) (i d : ℕ) → i < length vs →
    of_entry vs i (λ v. Some v.node) None ≡ Some (get_or (map (λ v. v.node) vs) i d)
node_at [] i d l = absurd (omega arith)
node_at (v ∷ vs) zero d l = refl
node_at (v ∷ vs) (suc i) d l = node_at vs i d (omega arith)

nodes_differ : (b : Basin) → IsValidBasin b → AllPairs (λ x y. x ≢ y) (map (λ v. v.node) b.reservoirs)
nodes_differ b valid i j d before within same =
    let l : j < length b.reservoirs = omega (arith, within, length-map b.reservoirs (λ v. v.node)) in
    valid.names.reservoirs i j before l
    (node_at b.reservoirs i d (omega arith) ∙ (ap (λ n. Some n) same ∙ sym (node_at b.reservoirs j d l)))

nodes_within : (n : ℕ) (vs : List Reservoir) → All (λ v. v.node < n) vs → (q : ℕ) →
    list_any (nat_eq q) (map (λ v. v.node) vs) ≡ true → q < n
nodes_within n [] h q e = cc
nodes_within n (v ∷ vs) h q e = elim (cases_Bool (nat_eq q v.node)) [
  | inl t ↦ (let here : v.node < n = h 0 v (omega arith) in
      let same : q ≡ v.node = grind (arith, nat_tests) in omega arith)
  | inr t ↦ nodes_within n vs (All-tail (λ v. v.node < n) v vs h) q (rw t at e)
]

pub bounded_reservoirs : (b : Basin) → IsValidBasin b → length b.reservoirs ≤ 2000
bounded_reservoirs b valid =
    let nodes : List ℕ = map (λ v. v.node) b.reservoirs in
    let within : All (λ v. v.node < length b.nodes) b.reservoirs = λ k d l. (valid.reservoirs k d l).node in
    omega (
      arith,
      length-map b.reservoirs (λ v. v.node),
      length-le_from_distinct_below nodes (length b.nodes)
          (IsDistinct-from_AllPairs Decides-eqb nodes (nodes_differ b valid))
          (nodes_within (length b.nodes) b.reservoirs within),
      valid.bounded.nodes,
    )

-- no space has many entries
pub bounded_in : (s : Space) (b : Basin) → IsValidBasin b → count_in s b ≤ 4000
bounded_in space.Nodes b valid = omega (arith, valid.bounded.nodes)
bounded_in space.Links b valid = valid.bounded.links
bounded_in space.Reservoirs b valid = omega (arith, bounded_reservoirs b valid)
bounded_in space.Rights b valid = omega (arith, valid.bounded.rights)

-- The order has each entry and nothing else.

pub length-in_order : (s : Space) (b : Basin) → length (in_order s b) ≡ count_in s b
length-in_order space.Nodes b = length-numbers_from 0 (length b.nodes)
length-in_order space.Links b = length-numbers_from 0 (length b.links)
length-in_order space.Reservoirs b = length-numbers_from 0 (length b.reservoirs)
length-in_order space.Rights b = length-by_seniority b.rights

below : (n k : ℕ) → Has (numbers_from 0 n) k → k < n
below n k h = omega (arith, (numbers_from-below 0 n k h).1)

pub in_order-below : (s : Space) (b : Basin) (k : ℕ) → Has (in_order s b) k → k < count_in s b
in_order-below space.Nodes b k h = below (length b.nodes) k h
in_order-below space.Links b k h = below (length b.links) k h
in_order-below space.Reservoirs b k h = below (length b.reservoirs) k h
in_order-below space.Rights b k h = seniors_below b.rights k h

pub in_order-has : (s : Space) (b : Basin) (k : ℕ) → k < count_in s b → Has (in_order s b) k
in_order-has space.Nodes b k l = numbers_from-has 0 (length b.nodes) k k l (omega arith)
in_order-has space.Links b k l = numbers_from-has 0 (length b.links) k k l (omega arith)
in_order-has space.Reservoirs b k l = numbers_from-has 0 (length b.reservoirs) k k l (omega arith)
in_order-has space.Rights b k l = seniors_have b.rights k l

-- what stands at an index is an element
pub has_at : (xs : List ℕ) (k x : ℕ) → slice_get xs k ≡ Some x → Has xs x
has_at [] k x e = let none : None ≡ Some x = e in cc
has_at (y ∷ ys) zero x e = let same : Some y ≡ Some x = e in let is : y ≡ x = cc in inl (sym is)
has_at (y ∷ ys) (suc k) x e = inr (has_at ys k x e)

-- The entry that stands at an index of the order.

pub right_at : (s : Space) (b : Basin) (order : List ℕ) (k : ℕ) → s ≡ space.Rights →
    order ≡ by_seniority b.rights → k < count_in s b →
    (k < length order) × (slice_get (in_order s b) k ≡ Some (get_or order k 0)) × (get_or order k 0 < count_in s b)
right_at space.Nodes b order k h is l = cc
right_at space.Links b order k h is l = cc
right_at space.Reservoirs b order k h is l = cc
right_at space.Rights b order k h is l =
    let within : k < length order = omega (arith, ap length is, length-by_seniority b.rights) in
    let at : slice_get (by_seniority b.rights) k ≡ Some (get_or order k 0) =
    ap (λ xs. slice_get xs k) (sym is) ∙ slice_get-get_or order k 0 within in
    (within, at, seniors_below b.rights (get_or order k 0) (has_at (by_seniority b.rights) k (get_or order k 0) at))

pub index_at : (s : Space) (b : Basin) (k : ℕ) → (s ≡ space.Rights → ⊥) → k < count_in s b →
    slice_get (in_order s b) k ≡ Some k
index_at space.Nodes b k h l = numbers_from-get 0 (length b.nodes) k k l (omega arith)
index_at space.Links b k h l = numbers_from-get 0 (length b.links) k k l (omega arith)
index_at space.Reservoirs b k h l = numbers_from-get 0 (length b.reservoirs) k k l (omega arith)
index_at space.Rights b k h l = absurd (h refl)
