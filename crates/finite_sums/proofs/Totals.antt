-- Laws of sums over indices.
use Rattle.std.proofs.Common.{◌≡◌, ℕ, zero, suc, ◌+◌, ◌*◌, ◌<◌, ◌≤◌, Bool, true, false, refl, ◌∙◌, ap, arith}
use Rattle.std.specs.Prelude.{max, if◌then◌else◌, ◌==◌, nat_lt, ◌⊎◌}
use Rattle.std.proofs.Common.{inl, inr, add-one, ap₂, add-zero, add-suc, ◌≢◌, subst, sym}
use Rattle.std.proofs.lemmas.Bool.{cases_lt, cases_order}
use Rattle.std.proofs.lemmas.Bool.Decides.{nat_tests, eqb_tells}
use Rattle.finite_sums.specs.Sums.{total, total_where, count_where, greatest_where}

pub total_le : (n : ℕ) (f g : ℕ → ℕ) → ((k : ℕ) → k < n → f k ≤ g k) → total n f ≤ total n g
unfolding total
total_le zero f g h = omega arith
total_le (suc n) f g h = omega (arith, total_le n f g (λ k l. h k (omega arith)), h n (omega arith))

pub total_same : (n : ℕ) (f g : ℕ → ℕ) → ((k : ℕ) → k < n → f k ≡ g k) → total n f ≡ total n g
unfolding total
total_same zero f g h = refl
total_same (suc n) f g h = omega (arith, total_same n f g (λ k l. h k (omega arith)), h n (omega arith))

-- a sum of n terms of at most m
pub total_most : (n m : ℕ) (f : ℕ → ℕ) → ((k : ℕ) → k < n → f k ≤ m) → total n f ≤ n * m
unfolding total
total_most zero m f h = omega arith
total_most (suc n) m f h = omega (arith, total_most n m f (λ k l. h k (omega arith)), h n (omega arith))

-- and of those of them that pass
pub total_where_most : (n m : ℕ) (p : ℕ → Bool) (f : ℕ → ℕ) → ((k : ℕ) → k < n → f k ≤ m) → total_where n p f ≤ n * m
total_where_most n m p f h = total_most n m (λ k. if p k then f k else 0) (λ k l. term (p k) (f k) (h k l))
  where
    term : (b : Bool) (x : ℕ) → x ≤ m → (if b then x else 0) ≤ m
    term true x h = h
    term false x h = omega arith

pub total_zero : (n : ℕ) (f : ℕ → ℕ) → ((k : ℕ) → k < n → f k ≡ 0) → total n f ≡ 0
unfolding total
total_zero zero f h = refl
total_zero (suc n) f h = omega (arith, total_zero n f (λ k l. h k (omega arith)), h n (omega arith))

pub total_add : (n : ℕ) (f g : ℕ → ℕ) → total n (λ k. f k + g k) ≡ total n f + total n g
unfolding total
total_add zero f g = refl
total_add (suc n) f g = omega (arith, total_add n f g)

-- one term is at most the sum
pub term_le_total : (n : ℕ) (f : ℕ → ℕ) (k : ℕ) → k < n → f k ≤ total n f
unfolding total
term_le_total zero f k h = omega arith
term_le_total (suc n) f k h =
    elim (cases_eq_lt k n h) [
      | inl e ↦ let a : f k ≡ f n = ap f e in omega arith
      | inr l ↦
          omega (arith, term_le_total n f k l)
    ]
  where
    cases_eq_lt : (k n : ℕ) → k < suc n → (k ≡ n) ⊎ (k < n)
    cases_eq_lt k n h = grind arith

-- two sums are exchanged
pub total_exchange : (n m : ℕ) (f : ℕ → ℕ → ℕ) →
    total n (λ v. total m (λ e. f v e)) ≡ total m (λ e. total n (λ v. f v e))
unfolding total
total_exchange n zero f = total_zero n (λ v. 0) (λ k h. refl)
total_exchange n (suc m) f =
    omega (arith, total_add n (λ v. total m (λ e. f v e)) (λ v. f v m), total_exchange n m f)

-- the one index that is k
pub total_at : (n : ℕ) (k x : ℕ) → total n (λ v. if k == v then x else 0) ≡ (if nat_lt k n then x else 0)
unfolding total
total_at zero k x = grind (arith, nat_tests)
total_at (suc n) k x = at_more k n x _ (total_at n k x)
  where
    at_more : (k n x t : ℕ) → t ≡ (if nat_lt k n then x else 0) →
        t + (if k == n then x else 0) ≡ (if nat_lt k (suc n) then x else 0)
    at_more k n x t h = grind (arith, nat_tests)

-- a sum over some indices is at most another over them, term by term
pub total_where_le : (n : ℕ) (p q : ℕ → Bool) (f g : ℕ → ℕ) →
    ((k : ℕ) → k < n → p k ≡ true → (q k ≡ true) × (f k ≤ g k)) → total_where n p f ≤ total_where n q g
total_where_le n p q f g h =
    total_le n (λ k. if p k then f k else 0) (λ k. if q k then g k else 0) (λ k l. term (p k) (q k) (f k) (g k) (h k l))
  where
    term : (a c : Bool) (x z : ℕ) → (a ≡ true → (c ≡ true) × (x ≤ z)) → (if a then x else 0) ≤ (if c then z else 0)
    term true c x z h = rw (h refl).0 (h refl).1
    term false c x z h = omega arith

-- one term is at most the sum
pub term_le_total_where : (n : ℕ) (p : ℕ → Bool) (f : ℕ → ℕ) (k : ℕ) → k < n → p k ≡ true → f k ≤ total_where n p f
term_le_total_where n p f k l h =
    let term : (if p k then f k else 0) ≤ total_where n p f = term_le_total n (λ i. if p i then f i else 0) k l in
    rw h at term

-- where a sum over the indices that pass a test is 0, each of its terms is 0
pub total_where_none : (n : ℕ) (p : ℕ → Bool) (f : ℕ → ℕ) → total_where n p f ≡ 0 →
    (k : ℕ) → k < n → p k ≡ true → f k ≡ 0
total_where_none n p f none k l h = let le = term_le_total_where n p f k l h in omega arith

pub greatest_where_le : (n : ℕ) (p : ℕ → Bool) (f : ℕ → ℕ) (x : ℕ) →
    ((k : ℕ) → k < n → p k ≡ true → f k ≤ x) → greatest_where n p f ≤ x
unfolding greatest_where
greatest_where_le zero p f x h = omega arith
greatest_where_le (suc n) p f x h =
    let before : greatest_where n p f ≤ x = greatest_where_le n p f x (λ k l. h k (omega arith)) in
    let last : (if p n then f n else 0) ≤ x = term (p n) (f n) x (h n (omega arith)) in
    omega arith
  where
    term : (b : Bool) (y x : ℕ) → (b ≡ true → y ≤ x) → (if b then y else 0) ≤ x
    term true y x h = h refl
    term false y x h = omega arith

-- one index more, as loops count
pub total_where_more : (n : ℕ) (p : ℕ → Bool) (f : ℕ → ℕ) →
    total_where (n + 1) p f ≡ total_where n p f + (if p n then f n else 0)
unfolding total
total_where_more n p f = rw add-one refl

pub total_grows : (m n : ℕ) (f : ℕ → ℕ) → m ≤ n → total m f ≤ total n f
unfolding total
total_grows m zero f h = rw (le_zero m h) (omega arith)
  where
    le_zero : (m : ℕ) → m ≤ 0 → m ≡ 0
    le_zero m h = omega arith
total_grows m (suc n) f h = elim (cases_lt m (suc n)) [
  | inl below ↦ omega (arith, total_grows m n f (omega arith))
  | inr above ↦ at_end (omega arith)
]
  where
    at_end : m ≡ suc n → total m f ≤ total (suc n) f
    at_end e = rw e (omega arith)

-- a sum over some indices below k and the number at k are within the whole sum
pub total_where_fits : (k n : ℕ) (p : ℕ → Bool) (f : ℕ → ℕ) → k < n → total_where k p f + f k ≤ total n f
unfolding total
total_where_fits k n p f h =
    omega (arith, some_le_all k, total_grows (suc k) n f h)
  where
    some_le_all : (k : ℕ) → total_where k p f ≤ total k f
    some_le_all k = total_le k (λ i. if p i then f i else 0) f (λ i l. term (p i) (f i))
      where
        term : (b : Bool) (x : ℕ) → (if b then x else 0) ≤ x
        term true x = omega arith
        term false x = omega arith

pub total_where_start : (p : ℕ → Bool) (f : ℕ → ℕ) → total_where 0 p f ≡ 0
unfolding total
total_where_start p f = refl

-- what a loop that sums over indices needs
pub ruleset sums = (total_where_start, total_where_more, total_where_fits)

pub total_start : (f : ℕ → ℕ) → total 0 f ≡ 0
unfolding total
total_start f = refl

-- the first index first
pub total_first : (n : ℕ) (f : ℕ → ℕ) → total (suc n) f ≡ f 0 + total n (λ k. f (suc k))
unfolding total
total_first zero f = omega arith
total_first (suc n) f = omega (arith, total_first n f)

-- two functions that differ at one index alone
pub total_change : (n i : ℕ) (f g : ℕ → ℕ) → i < n → ((k : ℕ) → k < n → k ≢ i → f k ≡ g k) →
    total n f + g i ≡ total n g + f i
unfolding total
total_change zero i f g b h = absurd (omega arith)
total_change (suc n) i f g b h =
    elim (eqb_tells n i) [
      | inl p ↦
          let same : total n f ≡ total n g = total_same n f g (λ k c. h k (omega arith) (omega arith)) in
          let at_n : total n f + f n + g n ≡ total n g + g n + f n = omega arith in
          subst (λ j. total n f + f n + g j ≡ total n g + g n + f j) p.1 at_n
      | inr p ↦ omega (arith, total_change n i f g (omega arith) (λ k c. h k (omega arith)), h n (omega arith) p.1)
    ]

-- a sum with one term that is not 0
pub total_pick : (n i : ℕ) (f : ℕ → ℕ) → i < n → ((k : ℕ) → k < n → k ≢ i → f k ≡ 0) → total n f ≡ f i
total_pick n i f b h = omega (arith, total_change n i f (λ k. 0) b h, total_zero n (λ k. 0) (λ k c. refl))

-- a sum over two runs of indices
pub total_append : (m n : ℕ) (f : ℕ → ℕ) → total (m + n) f ≡ total m f + total n (λ k. f (m + k))
unfolding total
total_append m zero f = rw add-zero (omega arith)
total_append m (suc n) f = rw add-suc (omega (arith, total_append m n f))

pub total_more : (n : ℕ) (f : ℕ → ℕ) → total (n + 1) f ≡ total n f + f n
unfolding total
total_more n f = rw add-one refl

counted_step : (t : Bool) (c rest m : ℕ) (f : ℕ → ℕ) → total c (λ k. f (m + k)) ≡ rest →
    total (c + (if t then 1 else 0)) (λ k. f (m + k)) ≡ rest + (if t then f (m + c) else 0)
counted_step true c rest m f h = omega (arith, total_more c (λ k. f (m + k)), h)
counted_step false c rest m f h = rw add-zero (omega arith)

-- a sum over numbers that are given in turn to the indices that pass
pub total_counted : (n m : ℕ) (p : ℕ → Bool) (f : ℕ → ℕ) →
    total (count_where n p) (λ k. f (m + k)) ≡ total_where n p (λ k. f (m + count_where k p))
unfolding total
total_counted zero m p f = refl
total_counted (suc n) m p f = counted_step (p n) (count_where n p) _ m f (total_counted n m p f)

pub count_more : (n : ℕ) (p : ℕ → Bool) → count_where (suc n) p ≡ count_where n p + (if p n then 1 else 0)
unfolding total
count_more n p = refl

-- an index that passes is counted by each later one
pub count_less : (m n : ℕ) (p : ℕ → Bool) → m < n → p m ≡ true → count_where m p < count_where n p
count_less m n p l h =
    let more : count_where (suc m) p ≡ count_where m p + 1 =
    count_more m p ∙ ap (λ t. count_where m p + (if t then 1 else 0)) h in
    omega (arith, more, total_grows (suc m) n (λ k. if p k then 1 else 0) (omega arith))

-- two indices that pass have different numbers
pub count_apart : (m n : ℕ) (p : ℕ → Bool) → p m ≡ true → p n ≡ true → count_where m p ≡ count_where n p → m ≡ n
count_apart m n p h i e = elim (cases_order m n) [
  | inl same ↦ same
  | inr o ↦ elim o [
    | inl below ↦ absurd (omega (arith, count_less m n p below h))
    | inr above ↦ absurd (omega (arith, count_less n m p above i))
  ]
]

-- the index with a number
pub record IsCounted (n : ℕ) (p : ℕ → Bool) (k : ℕ) : Type 0 where
  pub place : ℕ
  pub below : place < n
  pub passes : p place ≡ true
  pub number : count_where place p ≡ k

counted_at : (n k : ℕ) (p : ℕ → Bool) (t : Bool) → p n ≡ t → k < count_where n p + (if t then 1 else 0) →
    (k < count_where n p → IsCounted n p k) → IsCounted (suc n) p k
counted_at n k p true e l h = elim (cases_lt k (count_where n p)) [
  | inl below ↦
      (let c = h below in
      record { place = c.place; below = (let d = c.below in omega arith); passes = c.passes; number = c.number })
  | inr above ↦ record { place = n; below = omega arith; passes = e; number = omega arith }
]
counted_at n k p false e l h =
    let c = h (omega arith) in
    record { place = c.place; below = (let d = c.below in omega arith); passes = c.passes; number = c.number }

pub index_counted : (n k : ℕ) (p : ℕ → Bool) → k < count_where n p → IsCounted n p k
unfolding total
index_counted zero k p l = absurd (omega arith)
index_counted (suc n) k p l = counted_at n k p (p n) refl l (index_counted n k p)

-- one term is at most the greatest
pub term_le_greatest : (n : ℕ) (p : ℕ → Bool) (f : ℕ → ℕ) (k : ℕ) → k < n → p k ≡ true → f k ≤ greatest_where n p f
unfolding greatest_where
term_le_greatest zero p f k l h = absurd (omega arith)
term_le_greatest (suc n) p f k l h = elim (cases_lt k n) [
  | inl below ↦ omega (arith, term_le_greatest n p f k below h)
  | inr above ↦ (let e : k ≡ n = omega arith in
      let same : f k ≡ f n = ap f e in
      let last : (if p n then f n else 0) ≡ f n = ap (λ t. if t then f n else 0) (ap p (sym e) ∙ h) in
      omega arith)
]

-- greatest values over tests that pass at the same indices
pub greatest_same_tests : (n : ℕ) (p q : ℕ → Bool) (f : ℕ → ℕ) → ((k : ℕ) → k < n → p k ≡ q k) →
    greatest_where n p f ≡ greatest_where n q f
unfolding greatest_where
greatest_same_tests zero p q f h = refl
greatest_same_tests (suc n) p q f h =
    ap₂ max (greatest_same_tests n p q f (λ k l. h k (omega arith)))
    (ap (λ t. if t then f n else 0) (h n (omega arith)))

-- one index more that passes
pub greatest_one_more : (n : ℕ) (p q : ℕ → Bool) (f : ℕ → ℕ) (r : ℕ) → r < n → q r ≡ true →
    ((k : ℕ) → k < n → p k ≡ true → q k ≡ true) → ((k : ℕ) → k < n → q k ≡ true → (p k ≡ true) ⊎ (k ≡ r)) →
    greatest_where n q f ≡ max (greatest_where n p f) (f r)
greatest_one_more n p q f r l here more only =
    omega (
      arith,
      term_le_greatest n q f r l here,
      greatest_where_le n p f (greatest_where n q f) (λ k m h. term_le_greatest n q f k m (more k m h)),
      greatest_where_le n q f (max (greatest_where n p f) (f r)) (λ k m h. elim (only k m h) [
        | inl old ↦ omega (arith, term_le_greatest n p f k m old)
        | inr same ↦ (let e : f k ≡ f r = ap f same in omega arith)
      ]),
    )

pub count_at_most : (n : ℕ) (p : ℕ → Bool) → count_where n p ≤ n
unfolding total
count_at_most zero p = omega arith
count_at_most (suc n) p = omega (arith, count_at_most n p, one (p n))
  where
    one : (t : Bool) → (if t then 1 else 0) ≤ 1
    one true = omega arith
    one false = omega arith
