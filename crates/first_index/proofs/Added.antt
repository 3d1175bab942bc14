-- What a map has at a text, before and after a text is added.
use Rattle.std.proofs.Common.{◌≡◌, ℕ, List, false, Option, Some, None, is_some, refl, sym, ◌∙◌, inl, inr}
use Rattle.std.specs.Borrow.{Bor}
use Rattle.std.specs.Option.{option_or}
use Rattle.std.specs.Str.{bytes_eq}
use Rattle.std.proofs.lemmas.Bool.{cases_Bool, false≢true}
use Rattle.std.proofs.lemmas.Map.Text.{hash_map_updates_str}
use Rattle.std.proofs.lemmas.Slice.Eq.{bytes_eq-Decides}
use Rattle.indexmap.specs.IndexMap.{IndexMap, get_by, UpdatesBy}
use Rattle.first_index.specs.Indices.{AddsIndex, index_at}

pub bytes_eq-sym : (xs ys : List ℕ) → bytes_eq xs ys ≡ bytes_eq ys xs
bytes_eq-sym xs ys =
    elim (cases_Bool (bytes_eq xs ys)) [
      | inl same ↦ same ∙ sym ((bytes_eq-Decides ys xs).1 (sym ((bytes_eq-Decides xs ys).0 same)))
      | inr other ↦ elim (cases_Bool (bytes_eq ys xs)) [
        | inl same ↦
            absurd (false≢true (sym other ∙ (bytes_eq-Decides xs ys).1 (sym ((bytes_eq-Decides ys xs).0 same))))
        | inr same ↦ other ∙ sym same
      ]
    ]

none_there : {V : Type 0} (r : Option V) → is_some r ≡ false → r ≡ None
none_there None h = refl
none_there (Some v) h = cc

pub or_none : {V : Type 0} (r : Option V) → option_or r None ≡ r
or_none None = refl
or_none (Some v) = refl

-- a text that had no index has one from now on
pub added : {V S : Type 0} (own : Bor (List ℕ)) (old new : IndexMap (Bor (List ℕ)) V S) (index : V) →
    UpdatesBy (λ x y. bytes_eq x.now y.now) (λ k. bytes_eq own.now k.now) old new (Some index) →
    is_some (get_by (λ k. bytes_eq own.now k.now) old) ≡ false → AddsIndex old new own.now index
added own old new index updates absent text =
    let there = hash_map_updates_str own.now old new (Some index) updates text in
    elim (cases_Bool (bytes_eq own.now text)) [
      | inl same ↦ (let here : index_at new text ≡ Some index = rw same at there in
          let eq : own.now ≡ text = (bytes_eq-Decides own.now text).0 same in
          let before : index_at old text ≡ None = rw (← eq) (none_there _ absent) in
          rw before (rw (bytes_eq-sym text own.now) (rw same here)))
      | inr other ↦ (let here : index_at new text ≡ index_at old text = rw other at there in
          rw (bytes_eq-sym text own.now) (rw other (here ∙ sym (or_none (index_at old text)))))
    ]
