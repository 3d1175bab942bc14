-- The figures of all rights, in a list by right.
use Rattle.std.proofs.Common.{◌≡◌, ℕ, suc, ◌+◌, Bool, true, false, cond, add-one, ◌<◌, ◌≤◌, refl, sym, ◌∙◌, ap}
use Rattle.std.proofs.Common.{arith, List, [], ◌∷◌, ◌++◌, length, map}
use Rattle.std.specs.Prelude.{slice_get, Some, option_map, count_by, if◌then◌else◌}
use Rattle.std.proofs.lemmas.Option.{slice_get-map, slice_get_within}
use Rattle.std.proofs.lemmas.List.Sums.{sum_by_push}
use Rattle.water_model.proofs.Lists.{numbers_more}
use Rattle.water_model.specs.Indices.{numbers_from, indices_of}
use Rattle.water_model.proofs.Order.{length-numbers_from, numbers_from-get}

-- the element of a list that has something for each index
pub entry_is : {X Y : Type 0} (f : ℕ → X) (ys : List Y) (xs : List X) (k : ℕ) → xs ≡ map f (indices_of ys) →
    k < length ys → slice_get xs k ≡ Some (f k)
entry_is f ys xs k is l =
    ap (λ zs. slice_get zs k) is
    ∙ (slice_get-map f (indices_of ys) k ∙ ap (option_map f) (numbers_from-get 0 (length ys) k k l (omega arith)))

pub entries_count : {X Y : Type 0} (f : ℕ → X) (ys : List Y) (xs : List X) → xs ≡ map f (indices_of ys) →
    length xs ≡ length ys
entries_count f ys xs is = ap length is ∙ (mapped (indices_of ys) ∙ length-numbers_from 0 (length ys))
  where
    mapped : (ns : List ℕ) → length (map f ns) ≡ length ns
    mapped [] = refl
    mapped (n ∷ ns) = omega (arith, mapped ns)

pub entry_at : {X Y : Type 0} (f : ℕ → X) (ys : List Y) (xs : List X) (k : ℕ) (x : X) → xs ≡ map f (indices_of ys) →
    slice_get xs k ≡ Some x →
    (k < length ys) × (x ≡ f k)
entry_at f ys xs k x is at =
    let l : k < length ys = omega (arith, slice_get_within xs k x at, entries_count f ys xs is) in
    let same : Some x ≡ Some (f k) = sym at ∙ entry_is f ys xs k is l in
    (l, cc)

-- and the list by its elements
by_entries : {X : Type 0} (f : ℕ → X) (from : ℕ) (xs : List X) →
    ((k : ℕ) → k < length xs → slice_get xs k ≡ Some (f (from + k))) →
    xs ≡ map f (numbers_from from (length xs))
unfolding numbers_from
by_entries f from [] h = refl
by_entries f from (x ∷ xs) h =
    let first : Some x ≡ Some (f from) = h 0 (omega arith) ∙ ap (λ n. Some (f n)) (omega arith) in
    let head : x ≡ f from = cc in
    ap (λ z. z ∷ xs) head
    ∙ ap (λ zs. f from ∷ zs)
    (by_entries f (suc from) xs (λ k l. h (suc k) (omega arith) ∙ ap (λ n. Some (f n)) (omega arith)))

pub list_is : {X Y : Type 0} (f : ℕ → X) (ys : List Y) (xs : List X) → length xs ≡ length ys →
    ((k : ℕ) → k < length ys → slice_get xs k ≡ Some (f k)) →
    xs ≡ map f (indices_of ys)
list_is f ys xs count h =
    by_entries f 0 xs (λ k l. h k (omega arith) ∙ ap (λ n. Some (f n)) (omega arith))
    ∙ ap (λ n. map f (numbers_from 0 n)) count

pub count_none : (p : ℕ → Bool) → 0 ≡ count_by p (numbers_from 0 0)
unfolding numbers_from
count_none p = refl

pub count_more : (p : ℕ → Bool) (n count one : ℕ) → count ≡ count_by p (numbers_from 0 n) →
    one ≡ (if p n then 1 else 0) →
    count + one ≡ count_by p (numbers_from 0 (n + 1))
count_more p n count one sofar here =
    omega (arith, sofar, here, sum_by_push (λ k. cond (p k) 1 0) (numbers_from 0 n) n, ap (count_by p) grown)
  where
    grown : numbers_from 0 (n + 1) ≡ numbers_from 0 n ++ n ∷ []
    grown = ap (numbers_from 0) (add-one n) ∙ (numbers_more 0 n ∙ ap (λ k. numbers_from 0 n ++ k ∷ []) (omega arith))

pub at_most_more : (t : Bool) (n count one : ℕ) → one ≡ (if t then 1 else 0) → count ≤ n → count + one ≤ n + 1
at_most_more true n count one e l = omega arith
at_most_more false n count one e l = omega arith

-- what a loop that counts indices needs
pub ruleset counts = (count_none, count_more, at_most_more)
