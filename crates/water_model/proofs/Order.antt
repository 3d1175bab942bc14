-- Lists of numbers, and the order of rights.
use Rattle.std.proofs.Common.{◌≡◌, ℕ, zero, suc, ◌+◌, ◌≤◌, ◌<◌, Bool, true, false, List, [], ◌∷◌, length, refl, sym, ap}
use Rattle.std.proofs.Common.{◌∙◌, arith, inl, inr, map}
use Rattle.std.proofs.lemmas.Bool.{cases_Bool}
use Rattle.std.specs.List.{flat_map}
use Rattle.std.specs.Prelude.{slice_get, Some, None, find, filter, ◌⊎◌, ◌≢◌}
use Rattle.water_model.specs.Rights.{is_senior_in, AreStrict}
use Rattle.water_model.specs.declared.types.Right.{Right}
use Rattle.water_model.proofs.Seniority.{senior_trans, senior_total}
use Rattle.water_model.specs.Indices.{numbers_from, indices_of, put_right, sort_rights, by_seniority}

pub length-numbers_from : (from n : ℕ) → length (numbers_from from n) ≡ n
unfolding numbers_from
length-numbers_from from zero = refl
length-numbers_from from (suc n) = ap suc (length-numbers_from (suc from) n)

pub numbers_from-get : (from n k x : ℕ) → k < n → x ≡ from + k → slice_get (numbers_from from n) k ≡ Some x
unfolding numbers_from
numbers_from-get from zero k x h e = absurd (omega arith)
numbers_from-get from (suc n) zero x h e = let same : from ≡ x = omega arith in ap (λ y. Some y) same
numbers_from-get from (suc n) (suc k) x h e = numbers_from-get (suc from) n k x (omega arith) (omega arith)

-- an element of a list
abbrev pub Has : List ℕ → ℕ → Type 0
Has [] x = ⊥
Has (y ∷ ys) x = (x ≡ y) ⊎ Has ys x

pub numbers_from-has : (from n k x : ℕ) → k < n → x ≡ from + k → Has (numbers_from from n) x
unfolding numbers_from
numbers_from-has from zero k x h e = absurd (omega arith)
numbers_from-has from (suc n) zero x h e = inl (omega arith)
numbers_from-has from (suc n) (suc k) x h e = inr (numbers_from-has (suc from) n k x (omega arith) (omega arith))

pub numbers_from-below : (from n x : ℕ) → Has (numbers_from from n) x → (from ≤ x) × (x < from + n)
unfolding numbers_from
numbers_from-below from zero x h = absurd h
numbers_from-below from (suc n) x (inl e) = (omega arith, omega arith)
numbers_from-below from (suc n) x (inr h) = let b = numbers_from-below (suc from) n x h in
    (omega (arith, b.0), omega (arith, b.1))

-- what two functions make of a list is the same where they make the same of each element
pub map_same : {Y : Type 0} (f g : ℕ → Y) (xs : List ℕ) → ((x : ℕ) → Has xs x → f x ≡ g x) → map f xs ≡ map g xs
map_same f g [] h = refl
map_same f g (x ∷ xs) h = rw (h x (inl refl), map_same f g xs (λ y m. h y (inr m))) refl

pub flat_same : {Y : Type 0} (f g : ℕ → List Y) (xs : List ℕ) → ((x : ℕ) → Has xs x → f x ≡ g x) →
    flat_map f xs ≡ flat_map g xs
flat_same f g [] h = refl
flat_same f g (x ∷ xs) h = rw (h x (inl refl), flat_same f g xs (λ y m. h y (inr m))) refl

-- the elements that pass a test
pub has-filter : (p : ℕ → Bool) (xs : List ℕ) (k : ℕ) → Has xs k → p k ≡ true → Has (filter p xs) k
has-filter p [] k h e = absurd h
has-filter p (x ∷ xs) k h e = elim (cases_Bool (p x)) [
  | inl f ↦ rw f (elim h [ inl is ↦ inl is | inr m ↦ inr (has-filter p xs k m e) ])
  | inr f ↦ elim h [ inl is ↦ absurd (cc (f, ap p is, e)) | inr m ↦ rw f (has-filter p xs k m e) ]
]

pub filter-has : (p : ℕ → Bool) (xs : List ℕ) (k : ℕ) → Has (filter p xs) k → Has xs k × (p k ≡ true)
filter-has p [] k h = absurd h
filter-has p (x ∷ xs) k h = elim (cases_Bool (p x)) [
  | inl f ↦ (let here : Has (x ∷ filter p xs) k = rw f at h in elim here [
    | inl is ↦ (inl is, ap p is ∙ f)
    | inr m ↦ (let r = filter-has p xs k m in (inr r.0, r.1))
  ])
  | inr f ↦ (let r = filter-has p xs k (rw f at h) in (inr r.0, r.1))
]

put_right-has : (rights : List Right) (r : ℕ) (xs : List ℕ) (x : ℕ) → Has (put_right rights r xs) x → (x ≡ r) ⊎ Has xs x
put_right-has rights r [] x h = h
put_right-has rights r (y ∷ ys) x h = elim (cases_Bool (is_senior_in rights r y)) [
  | inl e ↦ rw e at h
  | inr e ↦ (let here : Has (y ∷ put_right rights r ys) x = rw e at h in elim here [
    | inl same ↦ inr (inl same)
    | inr rest ↦ elim (put_right-has rights r ys x rest) [ inl is ↦ inl is | inr m ↦ inr (inr m) ]
  ])
]

has-put_right : (rights : List Right) (r : ℕ) (xs : List ℕ) (x : ℕ) → (x ≡ r) ⊎ Has xs x → Has (put_right rights r xs) x
has-put_right rights r [] x h = h
has-put_right rights r (y ∷ ys) x h = elim (cases_Bool (is_senior_in rights r y)) [
  | inl e ↦ rw e h
  | inr e ↦ rw e (elim h [
    | inl is ↦ inr (has-put_right rights r ys x (inl is))
    | inr m ↦ elim m [ inl same ↦ inl same | inr rest ↦ inr (has-put_right rights r ys x (inr rest)) ]
  ])
]

sort_rights-has : (rights : List Right) (xs : List ℕ) (x : ℕ) → Has (sort_rights rights xs) x → Has xs x
sort_rights-has rights [] x h = h
sort_rights-has rights (y ∷ ys) x h =
    elim (put_right-has rights y (sort_rights rights ys) x h)
    [ inl is ↦ inl is | inr rest ↦ inr (sort_rights-has rights ys x rest) ]

has-sort_rights : (rights : List Right) (xs : List ℕ) (x : ℕ) → Has xs x → Has (sort_rights rights xs) x
has-sort_rights rights [] x h = h
has-sort_rights rights (y ∷ ys) x (inl is) = has-put_right rights y (sort_rights rights ys) x (inl is)
has-sort_rights rights (y ∷ ys) x (inr rest) =
    has-put_right rights y (sort_rights rights ys) x (inr (has-sort_rights rights ys x rest))

-- every right stands in the order, and nothing else
pub seniors_have : (rights : List Right) (r : ℕ) → r < length rights → Has (by_seniority rights) r
unfolding by_seniority
seniors_have rights r h =
    has-sort_rights rights (indices_of rights) r (numbers_from-has 0 (length rights) r r h (omega arith))

pub seniors_below : (rights : List Right) (r : ℕ) → Has (by_seniority rights) r → r < length rights
unfolding by_seniority
seniors_below rights r h =
    let within = numbers_from-below 0 (length rights) r (sort_rights-has rights (indices_of rights) r h) in
    omega (arith, within.1)

-- The order has as many entries as there are rights.

length-put_right : (rights : List Right) (r : ℕ) (xs : List ℕ) → length (put_right rights r xs) ≡ suc (length xs)
length-put_right rights r [] = refl
length-put_right rights r (x ∷ xs) = elim (cases_Bool (is_senior_in rights r x)) [
  | inl e ↦ rw e refl
  | inr e ↦ rw e (ap suc (length-put_right rights r xs))
]

length-sort_rights : (rights : List Right) (xs : List ℕ) → length (sort_rights rights xs) ≡ length xs
length-sort_rights rights [] = refl
length-sort_rights rights (x ∷ xs) =
    length-put_right rights x (sort_rights rights xs) ∙ ap suc (length-sort_rights rights xs)

pub length-by_seniority : (rights : List Right) → length (by_seniority rights) ≡ length rights
unfolding by_seniority
length-by_seniority rights = length-sort_rights rights (indices_of rights) ∙ length-numbers_from 0 (length rights)

-- Each right in the order is senior to those after it.

abbrev pub IsOrdered : List Right → List ℕ → Type 0
IsOrdered rights [] = Unit {0}
IsOrdered rights (x ∷ xs) = ((y : ℕ) → Has xs y → is_senior_in rights x y ≡ true) × IsOrdered rights xs

put_right-ordered : (rights : List Right) (r : ℕ) (xs : List ℕ) →
    ((y : ℕ) → Has xs y → is_senior_in rights r y ≡ false → is_senior_in rights y r ≡ true) →
    IsOrdered rights xs → IsOrdered rights (put_right rights r xs)
put_right-ordered rights r [] t h = (λ y k. absurd k, tt)
put_right-ordered rights r (y ∷ ys) t h = elim (cases_Bool (is_senior_in rights r y)) [
  | inl e ↦ rw e (
    λ z k. elim k [
      | inl same ↦ ap (λ q. is_senior_in rights r q) same ∙ e
      | inr rest ↦ senior_trans rights r y z e (h.0 z rest)
    ],
    h,
  )
  | inr e ↦ rw e (
    λ z k. elim (put_right-has rights r ys z k) [
      | inl same ↦ ap (λ q. is_senior_in rights y q) same ∙ t y (inl refl) e
      | inr rest ↦ h.0 z rest
    ],
    put_right-ordered rights r ys (λ z k. t z (inr k)) h.1,
  )
]

sort_rights-ordered : (rights : List Right) → AreStrict rights → (from n : ℕ) → from + n ≤ length rights →
    IsOrdered rights (sort_rights rights (numbers_from from n))
unfolding numbers_from
sort_rights-ordered rights strict from zero h = tt
sort_rights-ordered rights strict from (suc n) h =
    put_right-ordered rights from (sort_rights rights (numbers_from (suc from) n)) (λ y k e. other y k e)
    (sort_rights-ordered rights strict (suc from) n (omega arith))
  where
    other : (y : ℕ) → Has (sort_rights rights (numbers_from (suc from) n)) y → is_senior_in rights from y ≡ false →
        is_senior_in rights y from ≡ true
    other y k e =
        let within = numbers_from-below (suc from) n y (sort_rights-has rights (numbers_from (suc from) n) y k) in
        let differ : from ≢ y = λ same. omega (arith, within.0) in
        elim (senior_total rights strict from y (omega arith) (omega (arith, within.1)) differ) [
          | inl senior ↦ absurd (cc (senior, e))
          | inr senior ↦ senior
        ]

pub seniors_ordered : (rights : List Right) → AreStrict rights → IsOrdered rights (by_seniority rights)
unfolding by_seniority
seniors_ordered rights strict = sort_rights-ordered rights strict 0 (length rights) (omega arith)

-- the first that passes a test is senior to each other that does
pub find-passes : (p : ℕ → Bool) (xs : List ℕ) (c : ℕ) → find p xs ≡ Some c → (p c ≡ true) × Has xs c
find-passes p [] c h = let none : None ≡ Some c = h in cc
find-passes p (x ∷ xs) c h = elim (cases_Bool (p x)) [
  | inl e ↦ (let here : Some x ≡ Some c = rw e at h in let same : x ≡ c = cc in (ap p (sym same) ∙ e, inl (sym same)))
  | inr e ↦ (let f = find-passes p xs c (rw e at h) in (f.0, inr f.1))
]

pub find-first : (rights : List Right) (p : ℕ → Bool) (xs : List ℕ) (c o : ℕ) → IsOrdered rights xs →
    find p xs ≡ Some c → Has xs o → p o ≡ true →
    (o ≡ c) ⊎ (is_senior_in rights c o ≡ true)
find-first rights p [] c o w h k q = absurd k
find-first rights p (x ∷ xs) c o w h k q = elim (cases_Bool (p x)) [
  | inl e ↦ (let here : Some x ≡ Some c = rw e at h in let same : x ≡ c = cc in elim k [
    | inl is ↦ inl (is ∙ same)
    | inr rest ↦ inr (ap (λ z. is_senior_in rights z o) (sym same) ∙ w.0 o rest)
  ])
  | inr e ↦ elim k [
    | inl is ↦ absurd (cc (ap p is, e, q))
    | inr rest ↦ find-first rights p xs c o w.1 (rw e at h) rest q
  ]
]

pub find-none : (p : ℕ → Bool) (xs : List ℕ) (o : ℕ) → find p xs ≡ None → Has xs o → p o ≡ false
find-none p [] o h k = absurd k
find-none p (x ∷ xs) o h k = elim (cases_Bool (p x)) [
  | inl e ↦ (let none : Some x ≡ None = rw e at h in absurd (cc))
  | inr e ↦ elim k [ inl is ↦ ap p is ∙ e | inr rest ↦ find-none p xs o (rw e at h) rest ]
]
