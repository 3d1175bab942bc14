-- The first of the greatest, over a list that grows at its end.
use Rattle.std.proofs.Common.{◌≡◌, ℕ, ◌<◌, ◌≤◌, Bool, true, false, refl, sym, ◌∙◌, ap, arith, List, [], ◌∷◌, ◌++◌, cond}
use Rattle.std.proofs.Common.{inl, inr, Option, Some, None}
use Rattle.std.specs.Prelude.{max, find, nat_lt, nat_le, ◌&&◌, if◌then◌else◌}
use Rattle.std.specs.List.{list_all}
use Rattle.std.specs.Option.{option_or}
use Rattle.std.proofs.lemmas.Bool.{cases_lt}
use Rattle.std.proofs.lemmas.Bool.Decides.{nat_tests}
use Rattle.std.proofs.lemmas.List.Folds.{find-append}
use Rattle.reports.specs.Tallies.{greatest_of}

pub greatest-append : {X : Type 0} (f : X → ℕ) (xs : List X) (y : X) →
    greatest_of f (xs ++ y ∷ []) ≡ max (greatest_of f xs) (f y)
greatest-append f [] y = omega arith
greatest-append f (x ∷ xs) y = omega (arith, greatest-append f xs y)

-- an element is as great as all exactly if it is as great as the greatest
all_le : {X : Type 0} (f : X → ℕ) (xs : List X) (n : ℕ) →
    list_all (λ x. nat_le (f x) n) xs ≡ nat_le (greatest_of f xs) n
all_le f [] n = least n
  where
    least : (n : ℕ) → true ≡ nat_le 0 n
    least n = grind (arith, nat_tests)
all_le f (x ∷ xs) n = ap (λ t. nat_le (f x) n && t) (all_le f xs n) ∙ both (f x) (greatest_of f xs) n
  where
    both : (a c n : ℕ) → nat_le a n && nat_le c n ≡ nat_le (max a c) n
    both a c n = grind (arith, nat_tests)

-- whether an element is above 0 and as great as g
is_top : {X : Type 0} → (X → ℕ) → ℕ → X → Bool
is_top f g x = nat_lt 0 (f x) && nat_le g (f x)

find_same : {X : Type 0} (p q : X → Bool) (xs : List X) → ((x : X) → p x ≡ q x) → find p xs ≡ find q xs
find_same p q [] h = refl
find_same p q (x ∷ xs) h = rw (h x) (ap (λ o. cond (q x) (Some x) o) (find_same p q xs h))

is_first : {X : Type 0} (f : X → ℕ) (xs : List X) →
    find (λ x. nat_lt 0 (f x) && list_all (λ k. nat_le (f k) (f x)) xs) xs
    ≡ find (is_top f (greatest_of f xs)) xs
unfolding is_top
is_first f xs = find_same _ (is_top f (greatest_of f xs)) xs (λ x. ap (λ t. nat_lt 0 (f x) && t) (all_le f xs (f x)))

-- nothing is found among those that are all less
none_above : {X : Type 0} (f : X → ℕ) (xs : List X) (g : ℕ) → greatest_of f xs < g → find (is_top f g) xs ≡ None
unfolding is_top
none_above f [] g h = refl
none_above f (x ∷ xs) g h = rw (below (f x) g (omega arith)) (none_above f xs g (omega arith))
  where
    below : (a g : ℕ) → a < g → nat_lt 0 a && nat_le g a ≡ false
    below a g h = grind (arith, nat_tests)

-- and among others something is, where one of them is above 0
some_top : {X : Type 0} (f : X → ℕ) (xs : List X) (g : ℕ) → greatest_of f xs ≡ g → 0 < g → find (is_top f g) xs ≡ None →
    ⊥
unfolding is_top
some_top f [] g e l none = omega arith
some_top f (x ∷ xs) g e l none = by_test (is_top f g x) refl none (λ h k. some_top f xs g h l k)
  where
    below : (a g : ℕ) → 0 < g → nat_lt 0 a && nat_le g a ≡ false → a < g
    below a g l h = grind (arith, nat_tests)

    by_test : (t : Bool) → is_top f g x ≡ t → cond t (Some x) (find (is_top f g) xs) ≡ None →
        (greatest_of f xs ≡ g → find (is_top f g) xs ≡ None → ⊥) → ⊥
    by_test true h found further = let never : Some x ≡ None = found in cc
    by_test false h found further = let less : f x < g = below (f x) g l h in further (omega (arith, e, less)) found

-- an element more that is not greater is not found
not_greater : {X : Type 0} (f : X → ℕ) (xs : List X) (y : X) (g : ℕ) → greatest_of f xs ≡ g → f y ≤ g →
    (o : Option X) → find (is_top f g) xs ≡ o → (t : Bool) → is_top f g y ≡ t → option_or o (cond t (Some y) None) ≡ o
unfolding is_top
not_greater f xs y g e l (Some x) h t k = refl
not_greater f xs y g e l None h true k = absurd (some_top f xs g e (above (f y) g l k) h)
  where
    above : (a g : ℕ) → a ≤ g → nat_lt 0 a && nat_le g a ≡ true → 0 < g
    above a g l h = grind (arith, nat_tests)
not_greater f xs y g e l None h false k = refl

one_more : {X : Type 0} (f : X → ℕ) (xs : List X) (y : X) (g : ℕ) → greatest_of f xs ≡ g →
    option_or (find (is_top f (max g (f y))) xs)
    (find (is_top f (max g (f y))) (y ∷ [])) ≡ (if nat_lt g (f y) then Some y else find (is_top f g) xs)
unfolding is_top
one_more f xs y g e = elim (cases_lt g (f y)) [ inl more ↦ above more | inr less ↦ within less ]
  where
    top : (g h : ℕ) → g < h → nat_lt 0 h && nat_le (max g h) h ≡ true
    top g h l = grind (arith, nat_tests)

    is_more : (g h : ℕ) → g < h → true ≡ nat_lt g h
    is_more g h l = grind (arith, nat_tests)

    is_less : (g h : ℕ) → h ≤ g → false ≡ nat_lt g h
    is_less g h l = grind (arith, nat_tests)

    above : g < f y →
        option_or (find (is_top f (max g (f y))) xs)
        (find (is_top f (max g (f y))) (y ∷ [])) ≡ (if nat_lt g (f y) then Some y else find (is_top f g) xs)
    above more =
        ap (λ o. option_or o (cond (is_top f (max g (f y)) y) (Some y) None))
        (none_above f xs (max g (f y)) (omega (arith, e, more)))
        ∙ (ap (λ t. cond t (Some y) None) (top g (f y) more)
        ∙ ap (λ t. if t then Some y else find (is_top f g) xs) (is_more g (f y) more))

    within : f y ≤ g →
        option_or (find (is_top f (max g (f y))) xs)
        (find (is_top f (max g (f y))) (y ∷ [])) ≡ (if nat_lt g (f y) then Some y else find (is_top f g) xs)
    within less =
        let same : max g (f y) ≡ g = omega arith in
        ap (λ k. option_or (find (is_top f k) xs) (cond (is_top f k y) (Some y) None)) same
        ∙ (not_greater f xs y g e less (find (is_top f g) xs) refl (is_top f g y) refl
        ∙ ap (λ t. if t then Some y else find (is_top f g) xs) (is_less g (f y) less))

-- the first of the greatest that are above 0
pub worst_more : {X : Type 0} (f : X → ℕ) (xs : List X) (y : X) →
    find (λ x. nat_lt 0 (f x) && list_all (λ k. nat_le (f k) (f x)) (xs ++ y ∷ [])) (xs ++ y ∷ [])
    ≡ (if nat_lt (greatest_of f xs) (f y) then Some y else find
    (λ x. nat_lt 0 (f x) && list_all (λ k. nat_le (f k) (f x)) xs) xs)
worst_more f xs y =
    is_first f (xs ++ y ∷ [])
    ∙ (ap (λ g. find (is_top f g) (xs ++ y ∷ [])) (greatest-append f xs y)
    ∙ (find-append (is_top f (max (greatest_of f xs) (f y))) xs (y ∷ [])
    ∙ (one_more f xs y (greatest_of f xs) refl
    ∙ ap (λ o. if nat_lt (greatest_of f xs) (f y) then Some y else o) (sym (is_first f xs)))))
