-- Lists by index: the entry at each index is known.
use Rattle.std.proofs.Common.{◌≡◌, ◌≢◌, ℕ, zero, suc, ◌+◌, ◌-◌, ◌<◌, ◌≤◌, Bool, true, false, refl, sym, ap, subst, ◌∙◌}
use Rattle.std.proofs.Common.{arith, List, [], ◌∷◌, ◌++◌, length, take, length-append, inl, inr}
use Rattle.std.specs.Prelude.{Some, slice_get, nat_lt, if◌then◌else◌, ◌⊎◌, All}
use Rattle.std.specs.List.{list_any}
use Rattle.std.proofs.lemmas.Bool.{cases_lt, lt-ltb, le-ltb}
use Rattle.std.proofs.lemmas.Option.{slice_get_within, get_or_from_slice_get}
use Rattle.std.proofs.lemmas.List.{get_or-take, length-take}
use Rattle.std.proofs.lemmas.List.Folds.{list_any_none, list_any-from_Any}
use Rattle.finite_sums.specs.Sums.{total}
use Rattle.finite_sums.proofs.Totals.{total_zero}
use Rattle.water_model.specs.Lookups.{of_entry}
use Rattle.water_model.proofs.Lists.{get_before, get_after}
use Rattle.basin_gen.specs.Draws.{list_of}

-- a list has this many entries, and this one at each index
pub record IsListOf {X : Type 0} (xs : List X) (n : ℕ) (f : ℕ → X) : Type 0 where
  pub count : length xs ≡ n
  pub at : (i : ℕ) → i < n → slice_get xs i ≡ Some (f i)

pub get_right : {X : Type 0} → (xs ys : List X) (i : ℕ) → length xs ≤ i →
    slice_get (xs ++ ys) i ≡ slice_get ys (i - length xs)
get_right [] ys i l = ap (slice_get ys) (omega arith)
get_right (x ∷ xs) ys zero l = absurd (omega arith)
get_right (x ∷ xs) ys (suc i) l = get_right xs ys i (omega arith) ∙ ap (slice_get ys) (omega arith)

-- one list after another
abbrev pub joined : {X : Type 0} → ℕ → (ℕ → X) → (ℕ → X) → ℕ → X
joined n f g i = if nat_lt i n then f i else g (i - n)

pub joined_left : {X : Type 0} → (n : ℕ) (f g : ℕ → X) (i : ℕ) → i < n → joined n f g i ≡ f i
joined_left n f g i l = ap (λ t. if t then f i else g (i - n)) (lt-ltb i n l)

pub joined_right : {X : Type 0} → (n : ℕ) (f g : ℕ → X) (i : ℕ) → n ≤ i → joined n f g i ≡ g (i - n)
joined_right n f g i l = ap (λ t. if t then f i else g (i - n)) (le-ltb i n l)

pub join : {X : Type 0} → (xs ys : List X) (n m : ℕ) (f g : ℕ → X) → IsListOf xs n f → IsListOf ys m g →
    IsListOf (xs ++ ys) (n + m) (joined n f g)
join xs ys n m f g left right = record {
  count = length-append xs ys ∙ (let a = left.count in let b = right.count in omega arith);
  at = λ i l. elim (cases_lt i n) [
    | inl below ↦ get_before xs ys i (f i) (left.at i below) ∙ ap (λ x. Some x) (sym (joined_left n f g i below))
    | inr above ↦ (let a = left.count in
        get_right xs ys i (omega arith) ∙ ap (λ k. slice_get ys (i - k)) a ∙ right.at (i - n) (omega arith)
        ∙ ap (λ x. Some x) (sym (joined_right n f g i above)))
  ];
}

-- what the generator lists
pub listed : {X : Type 0} → (n : ℕ) (f : ℕ → X) → IsListOf (list_of n f) n f
unfolding list_of
listed zero f = record { count = refl; at = λ i l. absurd (omega arith) }
listed (suc n) f =
    let before = listed n f in
    let len = before.count in record {
      count = length-append (list_of n f) (f n ∷ []) ∙ omega arith;
      at = λ i l. elim (cases_lt i n) [
        | inl below ↦ get_before (list_of n f) (f n ∷ []) i (f i) (before.at i below)
        | inr above ↦ (let same : i ≡ length (list_of n f) = omega arith in
            ap (slice_get (list_of n f ++ f n ∷ [])) same ∙ get_after (list_of n f) [] (f n)
            ∙ ap (λ k. Some (f k)) (omega arith))
      ];
    }

-- what f says of an entry
pub entry_is : {X Y : Type 0} → (xs : List X) (n : ℕ) (f : ℕ → X) → IsListOf xs n f → (h : X → Y) (d : Y) (i : ℕ) →
    i < n → of_entry xs i h d ≡ h (f i)
entry_is xs n f is h d i l = rw (is.at i l) refl

pub all_of : {X : Type 0} → (P : X → Type 0) (xs : List X) (n : ℕ) (f : ℕ → X) → IsListOf xs n f →
    ((i : ℕ) → i < n → P (f i)) → All P xs
all_of P xs n f is each = λ k d l. let len = is.count in
    subst P (sym (get_or_from_slice_get xs k (f k) d (is.at k (omega arith)))) (each k (omega arith))

-- no two entries have one name
pub own_names : {X Y : Type 0} → (xs : List X) (n : ℕ) (f : ℕ → X) → IsListOf xs n f → (name : X → Y) (d : Y) →
    ((i j : ℕ) → i < j → j < n → name (f i) ≡ name (f j) → ⊥) →
    (i j : ℕ) → i < j → j < length xs → of_entry xs i name d ≢ of_entry xs j name d
own_names xs n f is name d apart i j before within equal =
    let len = is.count in
    apart i j before (omega arith) (sym (entry_is xs n f is name d i (omega arith)) ∙ equal
    ∙ entry_is xs n f is name d j (omega arith))

-- no entry before an index passes a test
pub none_before : {X : Type 0} → (p : X → Bool) (xs : List X) (n : ℕ) (f : ℕ → X) (i : ℕ) → i < n → IsListOf xs n f →
    ((k : ℕ) → k < i → p (f k) ≡ false) →
    list_any p (take i xs) ≡ false
none_before p xs n f i within is each = list_any_none p (take i xs) (λ k d l.
    let low : k < i = omega (arith, length-take i xs) in
    ap p (get_or-take i xs k d low ∙ get_or_from_slice_get xs k (f k) d (is.at k (omega arith))) ∙ each k low)

-- an entry passes a test
pub some_entry : {X : Type 0} → (p : X → Bool) (xs : List X) (k : ℕ) (x : X) → slice_get xs k ≡ Some x → p x ≡ true →
    list_any p xs ≡ true
some_entry p xs k x at h =
    list_any-from_Any p xs (k, x, slice_get_within xs k x at, get_or_from_slice_get xs k x x at, h)

-- a sum of which at most one term isn't 0
pub one_term : (n : ℕ) (f : ℕ → ℕ) (most : ℕ) → ((k : ℕ) → k < n → f k ≤ most) →
    ((i j : ℕ) → i < j → j < n → (f i ≡ 0) ⊎ (f j ≡ 0)) →
    total n f ≤ most
unfolding total
one_term zero f most small apart = omega arith
one_term (suc n) f most small apart = elim (cases_lt 0 (f n)) [
  | inl some ↦
      (let none =
      total_zero n f (λ k l. elim (apart k n l (omega arith)) [ inl z ↦ z | inr z ↦ absurd (omega arith) ]) in
      let last = small n (omega arith) in omega arith)
  | inr none ↦ omega (arith, one_term n f most (λ k l. small k (omega arith)) (λ i j l m. apart i j l (omega arith)))
]
