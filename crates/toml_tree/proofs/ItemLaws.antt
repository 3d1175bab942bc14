-- The items of a list beside the values that they are.
use Rattle.std.proofs.Common.{◌≡◌, suc, List, [], ◌∷◌, length, Bool, refl, ap}
use Rattle.std.specs.List.{list_all}
use Rattle.toml.specs.Data.{Data}
use Rattle.toml.specs.View.{view, items_view}
use Rattle.toml.specs.declared.value.Value.{Value}
use Rattle.toml_tree.specs.Items.{items_all, items_len}

pub items_all-view : (p : Data → Bool) (vs : List Value) → items_all p (items_view vs) ≡ list_all (λ v. p (view v)) vs
items_all-view p [] = refl
items_all-view p (v ∷ vs) = rw (items_all-view p vs) refl

pub items_len-view : (vs : List Value) → items_len (items_view vs) ≡ length vs
items_len-view [] = refl
items_len-view (v ∷ vs) = ap suc (items_len-view vs)
