-- The first indices of texts, kept in a map.
use Rattle.std.proofs.Common.{◌≡◌, ℕ, ◌+◌, ◌<◌, ◌≤◌, suc, List, [], ◌∷◌, ◌++◌, length, map, take, drop, get_or}
use Rattle.std.proofs.Common.{slice_get, slice_index, Option, Some, None, if◌then◌else◌}
use Rattle.std.proofs.Common.{refl, sym, ap, ◌∙◌, inl, inr, arith, count_by, option_map, option_and_then}
use Rattle.std.proofs.Common.{IfSome, MatchOption, zero, append_assoc, Bool, sum_by}
use Rattle.std.proofs.lemmas.List.{at_drop_more, drop_all, append-nil, map-append, take_more}
use Rattle.std.proofs.lemmas.List.Sums.{sum_by-append, sum_by-cons}
use Rattle.std.proofs.lemmas.Option.{slice_get-map, slice_get_read}
use Rattle.std.proofs.lemmas.Bool.{cases_Bool}
use Rattle.std.proofs.lemmas.Slice.Eq.{bytes_eq-Decides}
use Rattle.std.proofs.lemmas.Map.Text.{hash_map_updates_str}
use Rattle.std.specs.Borrow.{Bor}
use Rattle.std.specs.Str.{bytes_eq}
use Rattle.std.specs.List.{HoldsAt}
use Rattle.std.specs.Option.{option_or, option_map_or}
use Rattle.indexmap.specs.IndexMap.{IndexMap, UpdatesBy, IsUnchanged}
use Rattle.toml.specs.Data.{get_item, get, as_str}
use Rattle.toml.specs.declared.value.Value.{Value}
use Rattle.toml.specs.View.{view, items_view}
use Rattle.first_index.specs.Indices.{index_at, first_from}
use Rattle.first_index.proofs.Added.{bytes_eq-sym, or_none}
use Rattle.first_index.proofs.First.{first_more}
use Rattle.toml_tree.specs.Texts.{earlier_like, texts_after, is_the_text}
use Rattle.toml_tree.specs.FirstIndices.{counted, earlier_from, AddsIndices, AddsPrefix}

or_assoc : (r s t : Option ℕ) → option_or (option_or r s) t ≡ option_or r (option_or s t)
or_assoc None s t = refl
or_assoc (Some n) s t = refl

pub texts_view : (key : List ℕ) (vs : List Value) →
    texts_after key (items_view vs) ≡ map (λ v. option_and_then as_str (get key (view v))) vs
texts_view key [] = refl
texts_view key (v ∷ vs) = ap (λ texts. option_and_then as_str (get key (view v)) ∷ texts) (texts_view key vs)

pub texts_len : (key : List ℕ) (vs : List Value) → length (texts_after key (items_view vs)) ≡ length vs
texts_len key [] = refl
texts_len key (v ∷ vs) = ap suc (texts_len key vs)

-- the text of a value stands at the value's index
pub text_there : (key : List ℕ) (vs : List Value) (i : ℕ) (v : Value) (text : Option (List ℕ)) → i < length vs →
    v ≡ get_or vs i v → text ≡ option_and_then as_str (get key (view v)) →
    slice_get (texts_after key (items_view vs)) i ≡ Some text
text_there key vs i v text within at is =
    ap (λ texts. slice_get texts i) (texts_view key vs)
    ∙ (slice_get-map text_in vs i
    ∙ (ap (option_map text_in) (slice_get_read vs (length vs) i v refl within at) ∙ ap Some (sym is)))
  where
    text_in : Value → Option (List ℕ)
    text_in w = option_and_then as_str (get key (view w))

-- nothing is added yet
pub indices_none : {S : Type 0} (old : IndexMap (Bor (List ℕ)) ℕ S) (from : ℕ) → AddsIndices old old from []
indices_none old from q = sym (or_none (index_at old q))

module _ {S : Type 0} (old mid new : IndexMap (Bor (List ℕ)) ℕ S) (from : ℕ) (texts : List (Option (List ℕ))) (i : ℕ)
    (before : AddsIndices old mid from (take i texts)) where
  -- one text more is added
  pub indices_more : (text : Option (List ℕ)) → slice_get texts i ≡ Some text →
      ((q : List ℕ) → index_at new q
      ≡ option_or (index_at mid q) (if is_the_text q text then Some (from + i) else None)) →
      AddsIndices old new from (take (i + 1) texts)
  indices_more text at here q =
      let index : Option ℕ = if is_the_text q text then Some (from + i) else None in
      here q
      ∙ (ap (λ o. option_or o index) (before q)
      ∙ (or_assoc (index_at old q) (first_from (is_the_text q) from (take i texts)) index
      ∙ ap (option_or (index_at old q)) (sym (first_more (is_the_text q) from texts i text at))))

  -- memory is lacking for one
  pub indices_prefix : i < length texts → IsUnchanged mid new → AddsPrefix old new from texts
  indices_prefix within same = (i, within, λ q. kept q ∙ before q)
    where
      kept : (q : List ℕ) → index_at new q ≡ index_at mid q
      kept q = rw same refl

-- after a count
pub counted_more : {S : Type 0} (t : Bor (List ℕ)) (old new : IndexMap (Bor (List ℕ)) ℕ S) (before : ℕ)
    → UpdatesBy (λ x y. bytes_eq x.now y.now) (λ k. bytes_eq t.now k.now) old new (Some (before + 1)) →
    before ≡ counted old t.now
    → (q : List ℕ) → counted new q ≡ counted old q + (if bytes_eq q t.now then 1 else 0)
counted_more t old new before updates was q =
    let there = hash_map_updates_str t.now old new (Some (before + 1)) updates q in
    elim (cases_Bool (bytes_eq t.now q)) [
      | inl same ↦ (let here : index_at new q ≡ Some (before + 1) = rw same at there in
          let eq : t.now ≡ q = (bytes_eq-Decides t.now q).0 same in
          rw (bytes_eq-sym q t.now) (rw same (rw here (rw was (ap (λ b. counted old b + 1) eq)))))
      | inr other ↦ (let here : index_at new q ≡ index_at old q = rw other at there in
          rw (bytes_eq-sym q t.now) (rw other (rw here (omega arith))))
    ]

count_more : (p : Option (List ℕ) → Bool) (texts : List (Option (List ℕ))) (text : Option (List ℕ)) →
    count_by p (texts ++ text ∷ []) ≡ count_by p texts + (if p text then 1 else 0)
count_more p texts text =
    let count : Option (List ℕ) → ℕ = λ t. if p t then 1 else 0 in
    let last : sum_by count (text ∷ []) ≡ (if p text then 1 else 0) + sum_by count [] = sum_by-cons count text [] in
    let all : sum_by count (texts ++ text ∷ []) ≡ sum_by count texts + sum_by count (text ∷ []) =
    sum_by-append count texts (text ∷ []) in
    all ∙ ap (λ n. sum_by count texts + n) (last ∙ omega arith)

same_before : (counts others : List ℕ → ℕ) → ((q : List ℕ) → counts q ≡ others q) → (text : Option (List ℕ)) →
    option_map_or counts text 0 ≡ option_map_or others text 0
same_before counts others same None = refl
same_before counts others same (Some q) = same q

-- one row more is counted
module _ {V : Type 0} (f : V → Option (List ℕ)) (rows : List V) (i : ℕ) (v : V) (within : i < length rows)
    (at : v ≡ get_or rows i v) where
  seen_more : map f (take (i + 1) rows) ≡ map f (take i rows) ++ f v ∷ []
  seen_more =
      ap (map f) (take_more rows i v within)
      ∙ (map-append f (take i rows) (get_or rows i v ∷ []) ∙ ap (λ w. map f (take i rows) ++ f w ∷ []) (sym at))

  pub counts_more : (counts : List ℕ → ℕ) (q : List ℕ) (now : ℕ) →
      counts q ≡ count_by (is_the_text q) (map f (take i rows)) →
      now ≡ counts q + (if is_the_text q (f v) then 1 else 0) →
      now ≡ count_by (is_the_text q) (map f (take (i + 1) rows))
  counts_more counts q now before is =
      is
      ∙ (ap (λ n. n + (if is_the_text q (f v) then 1 else 0)) before
      ∙ sym (ap (count_by (is_the_text q)) seen_more ∙ count_more (is_the_text q) (map f (take i rows)) (f v)))

  pub earlier_more : (counts : List ℕ → ℕ) (earlier now all : List ℕ) →
      ((q : List ℕ) → counts q ≡ count_by (is_the_text q) (map f (take i rows))) →
      now ≡ earlier ++ option_map_or counts (f v) 0 ∷ [] →
      earlier ++ earlier_from (map f (take i rows)) (map f (drop i rows)) ≡ all →
      now ++ earlier_from (map f (take (i + 1) rows)) (map f (drop (i + 1) rows)) ≡ all
  earlier_more counts earlier now all same push before =
      let seen = map f (take i rows) in
      let more = map f (drop (i + 1) rows) in
      let first = option_map_or counts (f v) 0 in
      let after = earlier_from (map f (take (i + 1) rows)) more in
      let here : earlier_from seen (map f (drop i rows)) ≡ first ∷ after =
      at_drop_more (λ vs. earlier_from seen (map f vs)) rows i v within
      ∙ (ap (λ w. earlier_from seen (f w ∷ more)) (sym at)
      ∙ (ap (λ n. n ∷ earlier_from (seen ++ f v ∷ []) more)
      (sym (same_before counts (λ q. count_by (is_the_text q) seen) same (f v)))
      ∙ ap (λ s. first ∷ earlier_from s more) (sym seen_more))) in
      ap (λ xs. xs ++ after) push
      ∙ (append_assoc earlier (first ∷ []) after ∙ (ap (λ xs. earlier ++ xs) (sym here) ∙ before))

pub counts_all : {V : Type 0} (f : V → Option (List ℕ)) (seen : List (Option (List ℕ))) (earlier : List ℕ)
    (rows : List V) (i : ℕ) → length rows ≤ i
    → earlier ++ earlier_from seen (map f (drop i rows)) ≡ earlier_from [] (map f rows) →
    earlier ≡ earlier_from [] (map f rows)
counts_all f seen earlier rows i h e = sym (append-nil earlier) ∙ (rw (drop_all i rows h) at e)

pub earlier_get : (seen texts : List (Option (List ℕ))) (k : ℕ) → slice_index (earlier_from seen texts) k
    ≡ option_map_or (λ text. option_map_or (λ q. count_by (is_the_text q) (seen ++ take k texts)) text 0)
    (slice_get texts k) 0
earlier_get seen [] k = refl
earlier_get seen (text ∷ texts) zero = rw (append-nil seen) refl
earlier_get seen (text ∷ texts) (suc k) =
    earlier_get (seen ++ text ∷ []) texts k ∙ rw (append_assoc seen (text ∷ []) (take k texts)) refl

none_past : (n : ℕ) (vs : List Value) → length vs ≤ n → None ≡ get_item n (items_view vs)
none_past n [] h = refl
none_past zero (v ∷ vs) h = absurd (omega arith)
none_past (suc n) (v ∷ vs) h = none_past n vs (omega arith)

got_there : (x : Value) (n : ℕ) (vs : List Value) → n < length vs → x ≡ get_or vs n x →
    Some (view x) ≡ get_item n (items_view vs)
got_there x n [] h e = absurd (omega arith)
got_there x zero (v ∷ vs) h e = ap (λ y. Some (view y)) e
got_there x (suc n) (v ∷ vs) h e = got_there x n vs (omega arith) e

-- what `get` says of a slice of values, by their items
pub item_got : (r : Option (Bor Value)) (n : ℕ) (vs : List Value) → IfSome r (λ x. x.now ≡ get_or vs n x.now) →
    MatchOption r (length vs ≤ n) (λ x. (n < length vs) × HoldsAt (λ y. x.now ≡ y) vs n)
    → option_map (λ x. view x.now) r ≡ get_item n (items_view vs)
item_got None n vs e m = none_past n vs m
item_got (Some x) n vs e m = got_there x.now n vs m.0 e

pub earlier_is : (texts : List (Option (List ℕ))) (earlier : List ℕ) (k : ℕ) → earlier ≡ earlier_from [] texts →
    slice_index earlier k ≡ earlier_like texts k
earlier_is texts earlier k e = rw e (earlier_get [] texts k)
