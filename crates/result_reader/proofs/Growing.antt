-- Lists that are made element by element.
use Rattle.std.proofs.Common.{◌≡◌, ℕ, zero, suc, ◌+◌, ◌≤◌, List, [], ◌∷◌, ◌++◌, length, sym, ap, ◌∙◌, take}
use Rattle.std.proofs.Common.{append-nil}
use Rattle.std.proofs.Common.{append_assoc, add-one, take_all}
use Rattle.std.specs.Prelude.{slice_get, Some, None}
use Rattle.std.specs.List.{flat_map}

-- the elements of a list, one after another

more : {X Y : Type 0} (f : X → List Y) (xs : List X) (k : ℕ) (x : X) → slice_get xs k ≡ Some x →
    flat_map f (take (suc k) xs) ≡ flat_map f (take k xs) ++ f x
more f [] k x h = let none : None ≡ Some x = h in cc
more f (y ∷ ys) zero x h = let same : Some y ≡ Some x = h in let is : y ≡ x = cc in rw is (append-nil (f x))
more f (y ∷ ys) (suc k) x h = ap (λ t. f y ++ t) (more f ys k x h)
    ∙ sym (append_assoc (f y) (flat_map f (take k ys)) (f x))

-- what was added so far is that of the first elements, and then of one more element
pub added-next : {X Y : Type 0} (f : X → List Y) (xs : List X) (k : ℕ) (x : X) (old mid new : List Y) →
    slice_get xs k ≡ Some x →
    mid ≡ old ++ flat_map f (take k xs) → new ≡ mid ++ f x → new ≡ old ++ flat_map f (take (k + 1) xs)
added-next f xs k x old mid new at so_far here =
    here ∙ (ap (λ zs. zs ++ f x) so_far ∙ (append_assoc old (flat_map f (take k xs)) (f x)
    ∙ ap (λ zs. old ++ zs) (sym (more f xs k x at) ∙ ap (λ n. flat_map f (take n xs)) (sym (add-one k)))))

pub added-whole : {X Y : Type 0} (f : X → List Y) (xs : List X) (k : ℕ) (old new : List Y) → length xs ≤ k →
    new ≡ old ++ flat_map f (take k xs) → new ≡ old ++ flat_map f xs
added-whole f xs k old new past so_far = so_far ∙ ap (λ zs. old ++ flat_map f zs) (take_all k xs past)
