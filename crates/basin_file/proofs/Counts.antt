-- Counts of entries and of return rows.
use Rattle.std.proofs.Common.{nat_lt, ◌≡◌, ℕ, zero, suc, ◌+◌, ◌<◌, ◌≤◌, List, [], ◌∷◌, length, map, take, Bool, true}
use Rattle.std.proofs.Common.{All, Option, false, Some, slice_get, if◌then◌else◌, count_by, refl, sym, ap, ◌∙◌, arith}
use Rattle.std.proofs.Common.{inl, inr}
use Rattle.std.proofs.lemmas.List.Elements.{All-tail}
use Rattle.std.proofs.lemmas.List.Sums.{count_by_more_no, count_by_more_yes, sum_by-cons, sum_by-take-le}
use Rattle.std.proofs.lemmas.Bool.{cases_Bool, ltb-false}
use Rattle.std.proofs.lemmas.Option.{get_or_from_slice_get, slice_get-map, slice_get_within}
use Rattle.toml_tree.specs.Texts.{earlier_like, is_the_text}
use Rattle.finite_sums.specs.Sums.{count_where}
use Rattle.finite_sums.proofs.Totals.{total_start, total_first}
use Rattle.water_model.specs.Lookups.{of_entry}
use Rattle.water_model.proofs.Valid.{entry_at}

pub count_by-cons : {X : Type 0} (p : X → Bool) (x : X) (xs : List X) →
    count_by p (x ∷ xs) ≡ (if p x then 1 else 0) + count_by p xs
count_by-cons p x xs = sum_by-cons (λ y. if p y then 1 else 0) x xs

-- as many indices of a list have an entry that passes as entries pass
pub count_where-entries : {X : Type 0} (p : X → Bool) (xs : List X) →
    count_where (length xs) (λ k. of_entry xs k p false) ≡ count_by p xs
count_where-entries {X = X} p [] = let none : List X = [] in total_start (λ k. if of_entry none k p false then 1 else 0)
count_where-entries p (x ∷ xs) =
    total_first (length xs) (λ k. if of_entry (x ∷ xs) k p false then 1 else 0)
    ∙ (ap (λ n. (if p x then 1 else 0) + n) (count_where-entries p xs) ∙ sym (count_by-cons p x xs))

-- where fewer than the limit pass before each entry that passes, at most the limit pass
pub bounded_pass : {X : Type 0} (p : X → Bool) (limit : ℕ) (xs : List X) →
    ((k : ℕ) (x : X) → slice_get xs k ≡ Some x → p x ≡ true → count_by p (take k xs) < limit) →
    (n : ℕ) → n ≤ length xs → count_by p (take n xs) ≤ limit
bounded_pass p limit xs each zero l = omega arith
bounded_pass p limit xs each (suc n) l =
    let it = entry_at xs n (omega arith) in
    let is = get_or_from_slice_get xs n it.0 it.0 it.1 in
    let next : suc n ≡ n + 1 = omega arith in
    elim (cases_Bool (p it.0)) [
      | inl passes ↦ (let few = each n it.0 it.1 passes in
          rw (next, count_by_more_yes p xs n it.0 (omega arith) (ap p is ∙ passes)) (omega arith))
      | inr fails ↦ rw (next, count_by_more_no p xs n it.0 (omega arith) (ap p is ∙ fails))
          (bounded_pass p limit xs each n (omega arith))
    ]

-- how many pass among the first of what a function makes
pub count_taken : {X Y : Type 0} (f : X → Y) (p : Y → Bool) (n : ℕ) (xs : List X) →
    count_by p (take n (map f xs)) ≡ count_by (λ x. p (f x)) (take n xs)
count_taken f p zero xs = refl
count_taken f p (suc n) [] = refl
count_taken f p (suc n) (x ∷ xs) =
    count_by-cons p (f x) (take n (map f xs))
    ∙ (ap (λ m. (if p (f x) then 1 else 0) + m) (count_taken f p n xs)
    ∙ sym (count_by-cons (λ y. p (f y)) x (take n xs)))

-- how many entries before one have its text
pub earlier_at : {X : Type 0} (f : X → Option (List ℕ)) (xs : List X) (n k : ℕ) (x : X) (q : List ℕ) → n ≡ k →
    slice_get xs k ≡ Some x → f x ≡ Some q →
    earlier_like (map f xs) n ≡ count_by (λ y. is_the_text q (f y)) (take k xs)
earlier_at f xs n k x q same at text =
    rw (same, slice_get-map f xs k, at, text) (count_taken f (is_the_text q) k xs)

-- at most as many pass one test as another, where each that passes the first passes the other
pub counts_within : {X : Type 0} (p q : X → Bool) (n : ℕ) (xs : List X) → All (λ x. p x ≡ true → q x ≡ true) xs →
    count_by p (take n xs) ≤ count_by q (take n xs)
counts_within p q zero xs all = omega arith
counts_within p q (suc n) [] all = omega arith
counts_within p q (suc n) (x ∷ xs) all =
    let rest = counts_within p q n xs (All-tail (λ x. p x ≡ true → q x ≡ true) x xs all) in
    rw (count_by-cons p x (take n xs), count_by-cons q x (take n xs)) (by (p x) (q x) (all 0 x (omega arith)) rest)
  where
    by : (b c : Bool) {m k : ℕ} → (b ≡ true → c ≡ true) → m ≤ k → (if b then 1 else 0) + m ≤ (if c then 1 else 0) + k
    by true true h low = omega arith
    by true false h low = let no = h refl in cc
    by false true h low = omega arith
    by false false h low = omega arith

-- fewer pass before one that passes than in all
pub before_less : {X : Type 0} (p : X → Bool) (xs : List X) (k : ℕ) (x : X) → slice_get xs k ≡ Some x → p x ≡ true →
    count_by p (take k xs) + 1 ≤ count_by p xs
before_less p xs k x at passes =
    let more = count_by_more_yes p xs k x (slice_get_within xs k x at)
    (ap p (get_or_from_slice_get xs k x x at) ∙ passes) in
    let most : count_by p (take (k + 1) xs) ≤ count_by p xs = sum_by-take-le (λ y. if p y then 1 else 0) xs (k + 1) in
    omega arith

-- where no entry's number, counted on from others before, is past the limit, the entries with those others are at most
-- the limit
pub bounded_by : {X : Type 0} (limit before : ℕ) (xs : List X) →
    ((k : ℕ) (x : X) → slice_get xs k ≡ Some x → nat_lt limit (before + (k + 1)) ≡ false) → before ≤ limit →
    before + length xs ≤ limit
bounded_by limit before [] each low = omega arith
bounded_by limit before (x ∷ xs) each low =
    let last = entry_at (x ∷ xs) (length xs) (omega arith) in
    let h : before + (length xs + 1) ≤ limit =
    ltb-false limit (before + (length xs + 1)) (each (length xs) last.0 last.1) in
    omega arith
