-- The first element that passes, of a list of lists.
use Rattle.std.proofs.Common.{◌≡◌, List, [], ◌∷◌, Bool, Option, Some, None, option_map, refl}
use Rattle.std.proofs.lemmas.List.Folds.{find-append}
use Rattle.std.specs.List.{find, flat_map}
use Rattle.std.specs.Option.{option_or}
use Rattle.basin_tree.specs.Entries.{first_some}

pub first_of_lists : {A X Y : Type 0} (f : X → Y) (p : X → Bool) (g : A → List X) (xs : List A) →
    first_some (λ a. option_map f (find p (g a))) xs ≡ option_map f (find p (flat_map g xs))
first_of_lists f p g [] = refl
first_of_lists {A = A} {X = X} {Y = Y} f p g (x ∷ xs) =
    rw (find-append p (g x) (flat_map g xs)) (by (find p (g x)) (first_of_lists f p g xs))
  where
    by : {r : Option Y} (o : Option X) → r ≡ option_map f (find p (flat_map g xs)) →
        option_or (option_map f o) r ≡ option_map f (option_or o (find p (flat_map g xs)))
    by None rest = rest
    by (Some y) rest = refl
