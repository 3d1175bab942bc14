-- Pieces that are put one after another.
use Rattle.std.proofs.Common.{◌≡◌, ℕ, zero, suc, ◌+◌, ◌≤◌, List, [], ◌∷◌, ◌++◌, length, take, drop, Option, Some, None}
use Rattle.std.proofs.Common.{Result, Ok, Err, refl, sym, ap, subst, ◌∙◌, arith, append_assoc, append-nil, add-one}
use Rattle.std.proofs.Common.{length-append, take_all, slice_get, IsErr}
use Rattle.std.specs.List.{flat_map}
use Rattle.std.proofs.Math.Seq.{take-append-add}
use Rattle.std.proofs.lemmas.Grind.{flat_map-append}
use Rattle.std.proofs.lemmas.List.{take-append-le}
use Rattle.water_edge.specs.Edge.{Extends, Output, Puts}
use Rattle.water_edge.proofs.Outputs.{Extends-nil, Extends-trans}

-- a prefix of a piece was put
abbrev pub PutsPrefix : Output → Output → List ℕ → Type 0
PutsPrefix old new piece = (count : ℕ) × (count ≤ length piece) × Extends old new (take count piece)

-- which is what a failed call may do
pub PutsPrefix-fails : {E : Type 0} (old new : Output) (r : Result (Unit {0}) E) (piece : List ℕ) → IsErr r →
    PutsPrefix old new piece → Puts old new r piece
PutsPrefix-fails old new (Ok u) piece failed h = cc
PutsPrefix-fails old new (Err e) piece failed h = h

-- a piece that was put whole, and then a prefix of another
pub PutsPrefix-then : (old mid new : Output) (a b : List ℕ) → Extends old mid a → PutsPrefix mid new b →
    PutsPrefix old new (a ++ b)
PutsPrefix-then old mid new a b h k = (
  length a + k.0,
  omega (arith, length-append a b, k.1),
  rw (take-append-add a b k.0) (Extends-trans old mid new a (take k.0 b) h k.2),
)

-- a prefix of a piece is a prefix of that piece with more after it
pub PutsPrefix-cut : (old new : Output) (a b : List ℕ) → PutsPrefix old new a → PutsPrefix old new (a ++ b)
PutsPrefix-cut old new a b k = (k.0, omega (arith, length-append a b, k.1), rw (take-append-le k.0 a b k.1) k.2)

-- a piece that was put whole, and then another
pub Puts-then : {E : Type 0} (old mid new : Output) (r : Result (Unit {0}) E) (a b : List ℕ) →
    Extends old mid a → Puts mid new r b → Puts old new r (a ++ b)
Puts-then old mid new (Ok u) a b h k = Extends-trans old mid new a b h k
Puts-then old mid new (Err e) a b h k = PutsPrefix-then old mid new a b h k

-- the piece of the first item, and then those of the others
pub Puts-first : {Y E : Type 0} (h : Y → List ℕ) (y : Y) (ys : List Y) (old mid new : Output)
    (r : Result (Unit {0}) E) →
    Extends old mid (flat_map h (y ∷ [])) → Puts mid new r (flat_map h ys) → Puts old new r (flat_map h (y ∷ ys))
Puts-first h y ys old mid new r here further =
    Puts-then old mid new r (h y) (flat_map h ys)
    (subst (λ (piece : List ℕ). Extends old mid piece) (append-nil (h y)) here) further

-- Three pieces, of which the first fails, or the second, or both of these were put.

pub Puts-cut : {E : Type 0} (old new : Output) (r : Result (Unit {0}) E) (a b : List ℕ) → IsErr r →
    PutsPrefix old new a → Puts old new r (a ++ b)
Puts-cut old new r a b failed k = PutsPrefix-fails old new r (a ++ b) failed (PutsPrefix-cut old new a b k)

pub Puts-second : {E : Type 0} (old mid new : Output) (r : Result (Unit {0}) E) (a b c : List ℕ) → IsErr r →
    Extends old mid a → PutsPrefix mid new b → Puts old new r (a ++ (b ++ c))
Puts-second old mid new r a b c failed h k =
    PutsPrefix-fails old new r (a ++ (b ++ c)) failed
    (PutsPrefix-then old mid new a (b ++ c) h (PutsPrefix-cut mid new b c k))

pub Puts-third : {E : Type 0} (old mid next new : Output) (r : Result (Unit {0}) E) (a b c : List ℕ) →
    Extends old mid a → Extends mid next b → Puts next new r c → Puts old new r (a ++ (b ++ c))
Puts-third old mid next new r a b c h k l = Puts-then old mid new r a (b ++ c) h (Puts-then mid next new r b c k l)

-- The pieces of the elements of a list, one element after another. Each element has items, and each item a piece.

more : {X Y : Type 0} (f : X → List Y) (xs : List X) (k : ℕ) (x : X) → slice_get xs k ≡ Some x →
    flat_map f (take (suc k) xs) ≡ flat_map f (take k xs) ++ f x
more f [] k x h = let none : None ≡ Some x = h in cc
more f (y ∷ ys) zero x h = let same : y ≡ x = cc in rw same (append-nil (f x))
more f (y ∷ ys) (suc k) x h =
    ap (λ t. f y ++ t) (more f ys k x h) ∙ sym (append_assoc (f y) (flat_map f (take k ys)) (f x))

parts : {X Y : Type 0} (f : X → List Y) (xs : List X) (k : ℕ) (x : X) → slice_get xs k ≡ Some x →
    flat_map f xs ≡ flat_map f (take k xs) ++ (f x ++ flat_map f (drop (suc k) xs))
parts f [] k x h = let none : None ≡ Some x = h in cc
parts f (y ∷ ys) zero x h = let same : y ≡ x = cc in rw same refl
parts f (y ∷ ys) (suc k) x h =
    ap (λ t. f y ++ t) (parts f ys k x h)
    ∙ sym (append_assoc (f y) (flat_map f (take k ys)) (f x ++ flat_map f (drop (suc k) ys)))

-- so far the items of the first elements were put, and the count of faults did not fall
pub record SoFar {X Y : Type 0} (h : Y → List ℕ) (f : X → List Y) (xs : List X) (k : ℕ) (old now : Output)
    (before after : ℕ) : Type 0 where
  pub put : Extends old now (flat_map h (flat_map f (take k xs)))
  pub later : before ≤ after

-- nothing yet
pub SoFar-none : {X Y : Type 0} (h : Y → List ℕ) (f : X → List Y) (xs : List X) (old : Output) (before : ℕ) →
    SoFar h f xs 0 old old before before
SoFar-none h f xs old before = record { put = Extends-nil old; later = omega arith }

-- one element more
pub SoFar-next : {X Y : Type 0} {h : Y → List ℕ} {f : X → List Y} {xs : List X} {k : ℕ} {old mid new : Output}
    {before between after : ℕ} (x : X) →
    SoFar h f xs k old mid before between → slice_get xs k ≡ Some x → Extends mid new (flat_map h (f x)) →
    between ≤ after →
    SoFar h f xs (k + 1) old new before after
SoFar-next {h} {f} {xs} {k} {old} {mid} {new} x s at here later = record {
  put = rw (add-one k, more f xs k x at, flat_map-append h (flat_map f (take k xs)) (f x))
      (Extends-trans old mid new (flat_map h (flat_map f (take k xs))) (flat_map h (f x)) s.put here);
  later = omega (arith, s.later);
}

-- an element that failed
pub SoFar-fails : {X Y E : Type 0} {h : Y → List ℕ} {f : X → List Y} {xs : List X} {k : ℕ} {old mid : Output}
    {before between : ℕ} (x : X) (new : Output) (r : Result (Unit {0}) E) →
    SoFar h f xs k old mid before between → slice_get xs k ≡ Some x → PutsPrefix mid new (flat_map h (f x)) → IsErr r →
    Puts old new r (flat_map h (flat_map f xs))
SoFar-fails {h} {f} {xs} {k} {old} {mid} x new r s at here failed =
    PutsPrefix-fails old new r (flat_map h (flat_map f xs)) failed
    (rw all (PutsPrefix-then old mid new (flat_map h (flat_map f (take k xs)))
    (flat_map h (f x) ++ flat_map h (flat_map f (drop (suc k) xs))) s.put
    (PutsPrefix-cut mid new (flat_map h (f x)) (flat_map h (flat_map f (drop (suc k) xs))) here)))
  where
    all : flat_map h (flat_map f xs) ≡ flat_map h
        (flat_map f (take k xs)) ++ (flat_map h (f x) ++ flat_map h (flat_map f (drop (suc k) xs)))
    all =
        ap (flat_map h) (parts f xs k x at)
        ∙ (flat_map-append h (flat_map f (take k xs)) (f x ++ flat_map f (drop (suc k) xs))
        ∙ ap (λ t. flat_map h (flat_map f (take k xs)) ++ t) (flat_map-append h (f x) (flat_map f (drop (suc k) xs))))

-- all elements
pub SoFar-whole : {X Y : Type 0} {h : Y → List ℕ} {f : X → List Y} {xs : List X} {k : ℕ} {old now : Output}
    {before after : ℕ} →
    SoFar h f xs k old now before after → length xs ≤ k → Extends old now (flat_map h (flat_map f xs))
SoFar-whole {h} {f} {xs} {k} {old} {now} s l = rw (take_all k xs l) at s.put
