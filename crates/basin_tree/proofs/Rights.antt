-- The names of rights, in three lists.
use Rattle.std.proofs.Common.{◌≡◌, ℕ, ◌+◌, List, ◌++◌, length, Bool, Option, refl, sym, ◌∙◌, length-append, zero-add}
use Rattle.std.specs.Option.{option_or}
use Rattle.toml.specs.View.{items_view}
use Rattle.toml.specs.declared.value.Value.{Value}
use Rattle.first_index.specs.Indices.{first_from}
use Rattle.first_index.proofs.First.{first_from-append}
use Rattle.toml_tree.specs.Texts.{texts_after}
use Rattle.toml_tree.proofs.IndexLaws.{texts_len}

pub in_three : (p : Option (List ℕ) → Bool) (key : List ℕ) (xs ys zs : List Value) (k0 k1 k2 : Option ℕ)
    → k0 ≡ first_from p 0 (texts_after key (items_view xs)) →
    k1 ≡ option_or k0 (first_from p (length xs) (texts_after key (items_view ys)))
    → k2 ≡ option_or k1 (first_from p (length xs + length ys) (texts_after key (items_view zs)))
    → k2 ≡ first_from p 0
    (texts_after key (items_view xs) ++ texts_after key (items_view ys) ++ texts_after key (items_view zs))
in_three p key xs ys zs k0 k1 k2 e0 e1 e2 =
    let prefix : first_from p 0 (texts_after key (items_view xs) ++ texts_after key (items_view ys)) ≡ k1 =
    first_from-append p 0 (texts_after key (items_view xs)) (texts_after key (items_view ys))
    ∙ rw (texts_len key xs, zero-add) (rw e1 (rw e0 refl)) in
    let len : length (texts_after key (items_view xs) ++ texts_after key (items_view ys)) ≡ length xs + length ys =
    rw (length-append, texts_len key xs, texts_len key ys) refl in
    e2 ∙ sym (first_from-append p 0 (texts_after key (items_view xs) ++ texts_after key (items_view ys))
    (texts_after key (items_view zs)) ∙ rw (prefix, len, zero-add) refl)
