-- One step of a loop that makes a list of the entries of another.
use Rattle.std.proofs.Common.{◌≡◌, ℕ, ◌+◌, ◌<◌, List, [], ◌∷◌, ◌++◌, length, map, drop, get_or, Bool, true, false}
use Rattle.std.proofs.Common.{refl, sym, ap, ◌∙◌, append_assoc}
use Rattle.std.specs.Prelude.{filter, if◌then◌else◌}
use Rattle.std.proofs.lemmas.List.{at_drop_more, map-append}

-- what is left of the entries begins with the one at the index
left_at : {X D : Type 0} (rest : List X → List D) (xs : List X) (i : ℕ) (x other : X) → i < length xs →
    x ≡ get_or xs i other → rest (drop i xs) ≡ rest (x ∷ drop (i + 1) xs)
left_at rest xs i x other within at =
    at_drop_more rest xs i other within ∙ ap (λ y. rest (y ∷ drop (i + 1) xs)) (sym at)

-- an entry gives one item, which is pushed
pub pushed : {X D : Type 0} (rest : List X → List D) (made : List D) (xs : List X) (i : ℕ) (x other : X) (d : D)
    (all : List D) → i < length xs → x ≡ get_or xs i other →
    rest (x ∷ drop (i + 1) xs) ≡ d ∷ rest (drop (i + 1) xs) → made ++ rest (drop i xs) ≡ all →
    (made ++ d ∷ []) ++ rest (drop (i + 1) xs) ≡ all
pushed rest made xs i x other d all within at one before =
    append_assoc made (d ∷ []) (rest (drop (i + 1) xs))
    ∙ (ap (λ r. made ++ r) (sym (left_at rest xs i x other within at ∙ one)) ∙ before)

-- an entry gives none
pub skipped : {X D : Type 0} (rest : List X → List D) (made : List D) (xs : List X) (i : ℕ) (x other : X)
    (all : List D) → i < length xs → x ≡ get_or xs i other → rest (x ∷ drop (i + 1) xs) ≡ rest (drop (i + 1) xs) →
    made ++ rest (drop i xs) ≡ all → made ++ rest (drop (i + 1) xs) ≡ all
skipped rest made xs i x other all within at none before =
    ap (λ r. made ++ r) (sym (left_at rest xs i x other within at ∙ none)) ∙ before

-- the items of a list of values after one more
pub mapped : {V D : Type 0} (f : V → D) (made now : List V) (v : V) (d : D) → now ≡ made ++ v ∷ [] → f v ≡ d →
    map f now ≡ map f made ++ d ∷ []
mapped f made now v d push is =
    ap (map f) push ∙ (map-append f made (v ∷ []) ∙ ap (λ e. map f made ++ e ∷ []) is)

-- the entries that pass a test, where the first one passes or fails
pub passes_first : {X D : Type 0} (f : X → D) (p : X → Bool) (x : X) (xs : List X) → p x ≡ true →
    map f (filter p (x ∷ xs)) ≡ f x ∷ map f (filter p xs)
passes_first f p x xs e = ap (λ t. map f (if t then x ∷ filter p xs else filter p xs)) e

pub fails_first : {X D : Type 0} (f : X → D) (p : X → Bool) (x : X) (xs : List X) → p x ≡ false →
    map f (filter p (x ∷ xs)) ≡ map f (filter p xs)
fails_first f p x xs e = ap (λ t. map f (if t then x ∷ filter p xs else filter p xs)) e

-- an entry gives one value, where every entry does
pub all_mapped : {X V D : Type 0} (f : V → D) (xs : List X) (g : X → D) (made now : List V) (i : ℕ) (x : X) (v : V) →
    i < length xs → x ≡ get_or xs i x → now ≡ made ++ v ∷ [] → f v ≡ g x →
    map f made ++ map g (drop i xs) ≡ map g xs → map f now ++ map g (drop (i + 1) xs) ≡ map g xs
all_mapped f xs g made now i x v within at push is before =
    ap (λ ds. ds ++ map g (drop (i + 1) xs)) (mapped f made now v (g x) push is)
    ∙ pushed (map g) (map f made) xs i x x (g x) (map g xs) within at refl before
