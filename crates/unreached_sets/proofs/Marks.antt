-- The set of unreached nodes after writes.
use Rattle.std.proofs.Common.{◌≡◌, ◌≢◌, ℕ, ◌+◌, ◌<◌, ◌≤◌, Bool, true, false, refl, sym, ◌∙◌, ap}
use Rattle.std.proofs.Common.{subst, arith, List, length, replicate, inl, inr}
use Rattle.std.proofs.lemmas.Bool.{cases_eq, cases_lt}
use Rattle.std.proofs.lemmas.Bool.Decides.{nat_tests}
use Rattle.std.proofs.lemmas.List.{ext_get_or, get_or-replicate, get_or-set_same, get_or-set_other, length-set}
use Rattle.std.proofs.lemmas.List.{length-replicate}
use Rattle.std.proofs.Math.ListN.{get_or-eq_default}
use Rattle.std.proofs.lemmas.List.FromFn.{get_or-map-range_with_len, length-map-range_with_len}
use Rattle.std.specs.Prelude.{◌==◌, ◌&&◌, nat_lt, slice_set, Option, Some, IfSome, IsSome, IsTrue, ◌↔◌}
use Rattle.water_model.specs.CutSets.{CutSets, set_of, with_set}
use Rattle.unreached_sets.specs.Sets.{set_where}
use Rattle.water_model.proofs.SetEntries.{set_entry, set_of_with, set_twice}
use Rattle.water_model.specs.Lookups.{has}
use Rattle.circulation.specs.Contents.{Contents}
use Rattle.augment.specs.Raised.{not_reached, position_of}
use mathlib.Core.Path.{fun_ext}

pub with_twice : (c : CutSets) (r : ℕ) (s t : Option (List Bool)) → with_set (with_set c r s) r t ≡ with_set c r t
with_twice c r s t = ap (λ (xs : List (Option (List Bool))). let d : CutSets = record c { sets = xs } in
    d) (set_twice c.sets r s t)

-- the set of the nodes below k that pass
abbrev pub marked : ℕ → (ℕ → Bool) → ℕ → List Bool
marked n y k = set_where n (λ v. nat_lt v k && y v)

list_at : (n : ℕ) (f : ℕ → Bool) (k : ℕ) → k < n → has (set_where n f) k ≡ f k
list_at n f k l = get_or-map-range_with_len f 0 n k k false l (omega arith)

pub set_size : (n : ℕ) (f : ℕ → Bool) → length (set_where n f) ≡ n
set_size n f = length-map-range_with_len f 0 n

pub same_marks : (n : ℕ) (f g : ℕ → Bool) → ((k : ℕ) → k < n → f k ≡ g k) → set_where n f ≡ set_where n g
same_marks n f g h = ext_get_or false (set_where n f) (set_where n g) (set_size n f ∙ sym (set_size n g))
    (λ i l. let k : i < n = omega (arith, set_size n f) in list_at n f i k ∙ h i k ∙ sym (list_at n g i k))

pub marked_none : (n : ℕ) (y : ℕ → Bool) → replicate n false ≡ marked n y 0
marked_none n y = ext_get_or false (replicate n false) (marked n y 0) (length-replicate {A = Bool} n false
    ∙ sym (set_size n (λ v. nat_lt v 0 && y v))) (λ i l. let k : i < n = count i l in
    get_or-replicate n i false false k ∙ sym (list_at n (λ v. nat_lt v 0 && y v) i k ∙ none i (y i)))
  where
    count : (i : ℕ) → i < length (replicate n false) → i < n
    count i l = omega (arith, length-replicate {A = Bool} n false)

    none : (i : ℕ) (t : Bool) → nat_lt i 0 && t ≡ false
    none i t = grind (arith, nat_tests)

pub marked_all : (n : ℕ) (y : ℕ → Bool) → marked n y n ≡ set_where n y
marked_all n y = same_marks n (λ v. nat_lt v n && y v) y (λ k l. all k n (y k) l)
  where
    all : (k n : ℕ) (t : Bool) → k < n → nat_lt k n && t ≡ t
    all k n t l = grind (arith, nat_tests)

pub marked_skip : (n : ℕ) (y : ℕ → Bool) (k : ℕ) → y k ≡ false → marked n y k ≡ marked n y (k + 1)
marked_skip n y k h = same_marks n (λ v. nat_lt v k && y v) (λ v. nat_lt v (k + 1) && y v) (λ v l. elim (cases_eq v k) [
  | inl e ↦ skip v k (y v) (ap y e ∙ h)
  | inr ne ↦ other v k (y v) ne
])
  where
    skip : (v k : ℕ) (t : Bool) → t ≡ false → nat_lt v k && t ≡ nat_lt v (k + 1) && t
    skip v k t h = grind (arith, nat_tests)

    other : (v k : ℕ) (t : Bool) → v ≢ k → nat_lt v k && t ≡ nat_lt v (k + 1) && t
    other v k t ne = grind (arith, nat_tests)

pub marked_more : (n : ℕ) (y : ℕ → Bool) (k : ℕ) → k < n → y k ≡ true →
    slice_set (marked n y k) k true ≡ marked n y (k + 1)
marked_more n y k m h = ext_get_or false (slice_set (marked n y k) k true) (marked n y (k + 1))
    (length-set (marked n y k) k true
    ∙ (set_size n (λ v. nat_lt v k && y v) ∙ sym (set_size n (λ v. nat_lt v (k + 1) && y v))))
    (λ i l. at i (let e = length-set (marked n y k) k true in omega (arith, set_size n (λ v. nat_lt v k && y v)))
    ∙ sym (list_at n (λ v. nat_lt v (k + 1) && y v) i (let e = length-set (marked n y k) k true in
    omega (arith, set_size n (λ v. nat_lt v k && y v)))))
  where
    here : (i k : ℕ) (t : Bool) → i ≡ k → t ≡ true → true ≡ nat_lt i (k + 1) && t
    here i k t e h = grind (arith, nat_tests)

    other : (v k : ℕ) (t : Bool) → v ≢ k → nat_lt v k && t ≡ nat_lt v (k + 1) && t
    other v k t ne = grind (arith, nat_tests)

    at : (i : ℕ) → i < n → has (slice_set (marked n y k) k true) i ≡ nat_lt i (k + 1) && y i
    at i l = elim (cases_eq i k) [
      | inl e ↦ ap (has (slice_set (marked n y k) k true)) e
          ∙ get_or-set_same (marked n y k) k true false (omega (arith, set_size n (λ v. nat_lt v k && y v)))
          ∙ here i k (y i) e (ap y e ∙ h)
      | inr ne ↦ get_or-set_other (marked n y k) k i true false ne
          ∙ (list_at n (λ v. nat_lt v k && y v) i l ∙ other i k (y i) ne)
    ]

-- one more node is marked
pub mark_more : (c : CutSets) (new : CutSets) (r n : ℕ) (y : ℕ → Bool) (k : ℕ) → r < length c.sets → k < n →
    y k ≡ true → IfSome (set_of (with_set c r (Some (marked n y k))) r)
    (λ set. new ≡ with_set (with_set c r (Some (marked n y k))) r (Some (slice_set set k true))) →
    new ≡ with_set c r (Some (marked n y (k + 1)))
mark_more c new r n y k l m h added =
    let P : Option (List Bool) → Type 0 =
    λ (o : Option (List Bool)).
    IfSome o (λ set. new ≡ with_set (with_set c r (Some (marked n y k))) r (Some (slice_set set k true))) in
    let done : new ≡ with_set (with_set c r (Some (marked n y k))) r (Some (slice_set (marked n y k) k true)) =
    subst P (set_of_with c r (Some (marked n y k)) l) added in
    done ∙ (with_twice c r (Some (marked n y k)) (Some (slice_set (marked n y k) k true))
    ∙ ap (λ (xs : List Bool). with_set c r (Some xs)) (marked_more n y k m h))

pub with_same : (c : CutSets) (r : ℕ) (s : List Bool) → r < length c.sets → set_of c r ≡ Some s →
    with_set c r (Some s) ≡ c
with_same c r s l h = ap (λ (xs : List (Option (List Bool))). let d : CutSets = record c { sets = xs } in
    d) (set_entry c.sets r (Some s) l h)

pub is_some_set : (c new : CutSets) (r : ℕ) (s : List Bool) → r < length c.sets → new ≡ with_set c r (Some s) →
    IsSome (set_of new r)
is_some_set c new r s l e = rw (e, set_of_with c r (Some s) l) refl

-- a node was not reached where its word is 0
pub is_unreached : (v n p : ℕ) (t : Bool) → v < n → (IsTrue t ↔ (0 < p)) → t ≡ false → nat_lt v n && (p == 0) ≡ true
is_unreached v n p t l both h = grind (arith, nat_tests)

pub is_reached : (v n p : ℕ) (t : Bool) → (IsTrue t ↔ (0 < p)) → t ≡ true → nat_lt v n && (p == 0) ≡ false
is_reached v n p t both h = grind (arith, nat_tests)

-- the nodes outside the list are in no set
pub has_where : (n : ℕ) (y : ℕ → Bool) → ((v : ℕ) → n ≤ v → y v ≡ false) → (v : ℕ) → has (set_where n y) v ≡ y v
has_where n y basin v = elim (cases_lt v n) [
  | inl l ↦ get_or-map-range_with_len y 0 n v v false l (omega arith)
  | inr l ↦ get_or-eq_default (set_where n y) false (let e = length-map-range_with_len y 0 n in omega arith)
      ∙ sym (basin v l)
]

-- the set of the nodes that were not reached
pub unreached_set : (c : Contents) → has (set_where c.nodes (not_reached c)) ≡ not_reached c
unreached_set c = fun_ext (has_where c.nodes (not_reached c) (λ v l. outside v c.nodes (position_of c v) l))
  where
    outside : (v n p : ℕ) → n ≤ v → nat_lt v n && (p == 0) ≡ false
    outside v n p l = grind (arith, nat_tests)
