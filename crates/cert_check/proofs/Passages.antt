-- Where a line stands in a list of lines, and lists of lines that all pass a test.
use Rattle.std.proofs.Common.{◌≡◌, ℕ, Bool, true, refl, sym, ap, inl, inr, List, [], ◌∷◌, ◌++◌, map}
use Rattle.std.specs.Prelude.{Option, Some, None, ◌⊎◌}
use Rattle.std.specs.List.{list_all, flat_map}
use Rattle.std.proofs.lemmas.Bool.{and_parts}
use Rattle.water_model.specs.Indices.{members_from}
use Rattle.result_lines.specs.Text.{call_items}
use Rattle.result_lines.specs.declared.item.Item.{Item}
use Rattle.result_lines.specs.declared.item.Item.TheVariants as line

-- a line of two lists, one after the other, stands in the first or in the second
abbrev pub InFirst : List Item → List Item → Item → Type 0
InFirst first xs i = (zs : List Item) × (first ≡ xs ++ i ∷ zs)

abbrev pub InSecond : List Item → List Item → List Item → Item → List Item → Type 0
InSecond first second xs i ys = (zs : List Item) × (xs ≡ first ++ zs) × (second ≡ zs ++ i ∷ ys)

cons : {x y : Item} {xs ys : List Item} → x ≡ y → xs ≡ ys → x ∷ xs ≡ y ∷ ys
cons e f = rw (e, f) refl

pub stands_in : (first : List Item) {second : List Item} (xs : List Item) {i : Item} {ys : List Item} →
    first ++ second ≡ xs ++ i ∷ ys → InFirst first xs i ⊎ InSecond first second xs i ys
stands_in [] xs e = inr (xs, refl, e)
stands_in (x ∷ first) {second} [] {i} e = let same : x ≡ i = cc in inl (first, ap (λ y. y ∷ first) same)
stands_in (x ∷ first) {second} (y ∷ xs) {i} {ys} e =
    let head : x ≡ y = cc in
    let tail : first ++ second ≡ xs ++ i ∷ ys = cc in
    elim (stands_in first xs tail) [
      | inl prefix ↦ inl (prefix.0, cons head prefix.1)
      | inr after ↦ inr (after.0, cons (sym head) after.1, after.2)
    ]

-- Lines that all pass a test.

pub all_both : (p : Item → Bool) (xs ys : List Item) → list_all p xs ≡ true → list_all p ys ≡ true →
    list_all p (xs ++ ys) ≡ true
all_both p [] ys h k = k
all_both p (x ∷ xs) ys h k = (let two = and_parts (p x) (list_all p xs) h in rw (two.0, all_both p xs ys two.1 k) refl)

pub all_first : (p : Item → Bool) (xs ys : List Item) → list_all p (xs ++ ys) ≡ true → list_all p xs ≡ true
all_first p [] ys h = refl
all_first p (x ∷ xs) ys h =
    (let two = and_parts (p x) (list_all p (xs ++ ys)) h in rw (two.0, all_first p xs ys two.1) refl)

pub all_at : (p : Item → Bool) (xs : List Item) {i : Item} (ys : List Item) → list_all p (xs ++ i ∷ ys) ≡ true →
    p i ≡ true
all_at p [] {i} ys h = (and_parts (p i) (list_all p ys) h).0
all_at p (x ∷ xs) {i} ys h = all_at p xs ys (and_parts (p x) (list_all p (xs ++ i ∷ ys)) h).1

pub all_each : {X : Type 0} (p : Item → Bool) (item : X → Item) → ((x : X) → p (item x) ≡ true) → (xs : List X) →
    list_all p (map item xs) ≡ true
all_each p item h [] = refl
all_each p item h (x ∷ xs) = rw (h x, all_each p item h xs) refl

pub all_calls : (p : Item → Bool) → ((r : ℕ) → p (line.Call r) ≡ true) → ((n : ℕ) → p (line.Member n) ≡ true) →
    (cut : ℕ → Option (List Bool)) (xs : List ℕ) → list_all p (flat_map (λ r. call_items r (cut r)) xs) ≡ true
all_calls p call member cut [] = refl
all_calls p call member cut (x ∷ xs) =
    all_both p (call_items x (cut x)) (flat_map (λ r. call_items r (cut r)) xs) (by_set (cut x))
    (all_calls p call member cut xs)
  where
    by_set : (o : Option (List Bool)) → list_all p (call_items x o) ≡ true
    by_set None = refl
    by_set (Some set) = rw (call x) (all_each p (λ n. line.Member n) member (members_from 0 set))

pub all_weaker : {p q : Item → Bool} → ((i : Item) → p i ≡ true → q i ≡ true) → (xs : List Item) →
    list_all p xs ≡ true → list_all q xs ≡ true
all_weaker h [] k = refl
all_weaker {p} {q} h (x ∷ xs) k =
    (let two = and_parts (p x) (list_all p xs) k in rw (h x two.0, all_weaker h xs two.1) refl)
