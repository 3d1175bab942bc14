-- Sums over the nodes of a set.
use Rattle.std.proofs.Common.{◌≡◌, ℕ, zero, suc, ◌+◌, ◌<◌, Bool, true, false, refl, sym, ◌∙◌, ap, arith, List, []}
use Rattle.std.proofs.Common.{◌∷◌, length, ◌≤◌, inl, inr, replicate, sum}
use Rattle.std.specs.Prelude.{if◌then◌else◌, ◌==◌, nat_lt, Option, Some, None, ◌&&◌, not, slice_index}
use Rattle.std.proofs.lemmas.Bool.{and_from}
use Rattle.std.proofs.lemmas.Bool.Decides.{nat_tests, eqb_tells}
use Rattle.finite_sums.specs.Sums.{total, total_where}
use Rattle.water_model.specs.Lookups.{has}
use Rattle.water_model.specs.Basin.{is_at}
use Rattle.water_model.specs.Cuts.{node_within}
use Rattle.finite_sums.proofs.Totals.{total_same, total_exchange, total_at, total_zero, total_add}
use Rattle.finite_sums.proofs.Totals.{term_le_total_where, total_start, total_first}
use Rattle.std.proofs.lemmas.List.Sums.{sum_by-cons}

-- an index that is in the set is below its length
pub has_below : (set : List Bool) (k : ℕ) → has set k ≡ true → k < length set
has_below [] k h = cc
has_below (x ∷ set) zero h = omega arith
has_below (x ∷ set) (suc k) h = omega (arith, has_below set k h)

pub mask_total : (b : Bool) (m : ℕ) (f : ℕ → ℕ) → (if b then total m f else 0) ≡ total m (λ e. if b then f e else 0)
mask_total true m f = refl
mask_total false m f = sym (total_zero m (λ e. 0) (λ k h. refl))

-- the sum over the nodes of a set of what stands at each is the sum over what stands within the set
pub grouped : (n m : ℕ) (y : ℕ → Bool) (p : ℕ → ℕ → Bool) (within : ℕ → Bool) (f : ℕ → ℕ) →
    ((e x : ℕ) → total n (λ v. if y v then (if p e v then x else 0) else 0) ≡ (if within e then x else 0)) →
    total n (λ v. if y v then total m (λ e. if p e v then f e else 0) else 0) ≡ total m
    (λ e. if within e then f e else 0)
grouped n m y p within f one =
    total_same _ _ _ (λ v l. mask_total (y v) m (λ e. if p e v then f e else 0))
    ∙ total_exchange n m (λ v e. if y v then (if p e v then f e else 0) else 0)
    ∙ total_same _ _ _ (λ e l. one e (f e))

-- one index: what stands where it passes
pub at_one : (n : ℕ) (y : ℕ → Bool) (k x : ℕ) → (y k ≡ true → k < n) →
    total n (λ v. if y v then (if k == v then x else 0) else 0) ≡ (if y k then x else 0)
at_one n y k x inside =
    total_same _ _ _ (λ v l. swap_tests y k v x)
    ∙ (total_at n k (if y k then x else 0) ∙ drop_test k n (y k) x inside)
  where
    swap_tests : (y : ℕ → Bool) (k v x : ℕ) →
        (if y v then (if k == v then x else 0) else 0) ≡ (if k == v then (if y k then x else 0) else 0)
    swap_tests y k v x = grind (arith, nat_tests)

    drop_test : (k n : ℕ) (b : Bool) (x : ℕ) → (b ≡ true → k < n) →
        (if nat_lt k n then (if b then x else 0) else 0) ≡ (if b then x else 0)
    drop_test k n b x h = grind (arith, nat_tests)

pub at_index : (n : ℕ) (set : List Bool) → length set ≡ n → (k x : ℕ) →
    total n (λ v. if has set v then (if k == v then x else 0) else 0) ≡ (if has set k then x else 0)
at_index n set len k x = at_one n (has set) k x (λ h. let l = has_below set k h in omega arith)

-- the same where there may be no index
pub at_some_index : (n : ℕ) (set : List Bool) → length set ≡ n → (o : Option ℕ) (x : ℕ) →
    total n (λ v. if has set v then (if is_at o v then x else 0) else 0) ≡ (if node_within o set then x else 0)
at_some_index n set len None x = total_zero n (λ v. if has set v then 0 else 0) (λ v l. same (has set v) 0)
  where
    same : (b : Bool) (z : ℕ) → (if b then z else z) ≡ z
    same b z = grind (arith, nat_tests)
at_some_index n set len (Some k) x = at_index n set len k x

-- a sum over a set splits like its terms
pub total_where_add : (n : ℕ) (y : ℕ → Bool) (f g : ℕ → ℕ) →
    total_where n y (λ k. f k + g k) ≡ total_where n y f + total_where n y g
total_where_add n y f g =
    total_same _ _ _ (λ k l. split (y k) (f k) (g k))
    ∙ total_add n (λ k. if y k then f k else 0) (λ k. if y k then g k else 0)
  where
    split : (b : Bool) (x z : ℕ) → (if b then x + z else 0) ≡ (if b then x else 0) + (if b then z else 0)
    split b x z = grind (arith, nat_tests)

pub total_where_same : (n : ℕ) (y : ℕ → Bool) (f g : ℕ → ℕ) → ((k : ℕ) → k < n → f k ≡ g k) →
    total_where n y f ≡ total_where n y g
total_where_same n y f g h = total_same _ _ _ (λ k l. ap (λ x. if y k then x else 0) (h k l))

-- what has an end in the set has its other end there too, or crosses
pub total_crossing : (n : ℕ) (a c : ℕ → Bool) (f : ℕ → ℕ) →
    total_where n a f ≡ total_where n (λ k. a k && not (c k)) f + total_where n (λ k. a k && c k) f
total_crossing n a c f =
    total_same _ _ _ (λ k l. split (a k) (c k) (f k))
    ∙ total_add n (λ k. if a k && not (c k) then f k else 0) (λ k. if a k && c k then f k else 0)
  where
    split : (p q : Bool) (x : ℕ) → (if p then x else 0) ≡ (if p && not q then x else 0) + (if p && q then x else 0)
    split p q x = grind (arith, nat_tests)

pub total_swap : (n : ℕ) (a c : ℕ → Bool) (f : ℕ → ℕ) →
    total_where n (λ k. a k && c k) f ≡ total_where n (λ k. c k && a k) f
total_swap n a c f = total_same _ _ _ (λ k l. swap (a k) (c k) (f k))
  where
    swap : (p q : Bool) (x : ℕ) → (if p && q then x else 0) ≡ (if q && p then x else 0)
    swap p q x = grind (arith, nat_tests)

-- for each index below n that passes there is one below m that passes, with no lower value
abbrev pub Into : (n m : ℕ) → (ℕ → Bool) → (ℕ → Bool) → (ℕ → ℕ) → (ℕ → ℕ) → Type 0
Into n m p q f g = (k : ℕ) → k < n → p k ≡ true → (j : ℕ) × (j < m) × (q j ≡ true) × (f k ≤ g j)

-- and for two indices there are two
abbrev pub IsOneToOne : (n m : ℕ) (p q : ℕ → Bool) (f g : ℕ → ℕ) → Into n m p q f g → Type 0
IsOneToOne n m p q f g into =
    (i k : ℕ) (a : i < n) (c : k < n) (h : p i ≡ true) (w : p k ≡ true) → (into i a h).0 ≡ (into k c w).0 → i ≡ k

one_above : (k n : ℕ) → k < n → k < suc n
one_above k n l = omega arith

last_of : (n : ℕ) → n < suc n
last_of n = omega arith

into_more : (n m : ℕ) (p q : ℕ → Bool) (f g : ℕ → ℕ) (into : Into (suc n) m p q f g) →
    IsOneToOne (suc n) m p q f g into →
    ((r : ℕ → Bool) (prefix : Into n m p r f g) → IsOneToOne n m p r f g prefix →
    total_where n p f ≤ total_where m r g) →
    total_where n p f + (if p n then f n else 0) ≤ total_where m q g
into_more n m p q f g into one rest = by_last (p n) refl
  where
    passes : (t : Bool) (j y : ℕ) → t ≡ true → (j ≡ y → ⊥) → t && not (j == y) ≡ true
    passes t j y h n = elim (eqb_tells j y) [
      | inl same ↦ absurd (n same.1)
      | inr apart ↦ and_from t (not (j == y)) h (ap not apart.0)
    ]

    with_last : (x : (j : ℕ) × (j < m) × (q j ≡ true) × (f n ≤ g j)) →
        ((k : ℕ) (l : k < n) (h : p k ≡ true) → (into k (one_above k n l) h).0 ≡ x.0 → k ≡ n) →
        total_where n p f + f n ≤ total_where m q g
    with_last x apart = omega (
      arith,
      x.3,
      total_crossing m q (λ j. j == x.0) g,
      term_le_total_where m (λ j. q j && j == x.0) g x.0 x.1
          (and_from (q x.0) (x.0 == x.0) x.2 (grind (arith, nat_tests))),
      rest (λ j. q j && not (j == x.0))
          (λ k l h. (let y = into k (one_above k n l) h in
          (y.0, y.1, passes (q y.0) y.0 x.0 y.2 (λ same. let e = apart k l h same in omega arith), y.3)))
          (λ i k a c h w same. one i k (one_above i n a) (one_above k n c) h w same),
    )

    by_last : (t : Bool) → p n ≡ t → total_where n p f + (if t then f n else 0) ≤ total_where m q g
    by_last true e =
        with_last (into n (last_of n) e) (λ k l h same. one k n (one_above k n l) (last_of n) h e same)
    by_last false e = omega (
      arith,
      rest q (λ k l h. into k (one_above k n l) h)
          (λ i k a c h w same. one i k (one_above i n a) (one_above k n c) h w same),
    )

-- so the sum over the one is at most that over the other
pub total_where_into : (n m : ℕ) (p q : ℕ → Bool) (f g : ℕ → ℕ) (into : Into n m p q f g) →
    IsOneToOne n m p q f g into → total_where n p f ≤ total_where m q g
unfolding total
total_where_into zero m p q f g into one = omega arith
total_where_into (suc n) m p q f g into one =
    into_more n m p q f g into one (λ r prefix each. total_where_into n m p r f g prefix each)

-- the sum of a list is that over its indices
pub sum_total : (xs : List ℕ) → sum xs ≡ total (length xs) (λ k. slice_index xs k)
sum_total [] = sym (total_start (λ k. slice_index [] k))
sum_total (x ∷ xs) =
    omega (arith, sum_by-cons (λ x. x) x xs, sum_total xs, total_first (length xs) (λ k. slice_index (x ∷ xs) k))

pub has_all : (n k : ℕ) → k < n → has (replicate n true) k ≡ true
has_all zero k l = absurd (omega arith)
has_all (suc n) zero l = refl
has_all (suc n) (suc k) l = has_all n k (omega arith)

-- a sum over indices that all pass
pub total_where_all : (n : ℕ) (p : ℕ → Bool) (f : ℕ → ℕ) → ((k : ℕ) → k < n → p k ≡ true) →
    total_where n p f ≡ total n f
total_where_all n p f h = total_same n (λ k. if p k then f k else 0) f (λ k l. ap (λ t. if t then f k else 0) (h k l))

pub total_where_none_pass : (n : ℕ) (p : ℕ → Bool) (f : ℕ → ℕ) → ((k : ℕ) → k < n → p k ≡ false) → total_where n p f ≡ 0
total_where_none_pass n p f h = total_zero _ _ (λ k l. ap (λ t. if t then f k else 0) (h k l))
