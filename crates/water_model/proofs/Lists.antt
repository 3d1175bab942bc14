-- Entries and prefixes of lists, and the prefix of a partial history.
use Rattle.std.proofs.Common.{◌≡◌, ℕ, zero, suc, ◌+◌, ◌<◌, refl, sym, ap, subst, ◌∙◌, arith, List, [], ◌∷◌, ◌++◌}
use Rattle.std.proofs.Common.{length, take, drop, replicate, get_or, inl, inr, Some}
use Rattle.std.specs.Prelude.{◌≢◌, slice_get, slice_index, All, option_map, unwrap_or}
use Rattle.std.proofs.lemmas.Bool.{cases_order}
use Rattle.std.proofs.lemmas.List.{length-take, take-take, take_at}
use Rattle.std.proofs.lemmas.Option.{get_or_from_slice_get, slice_get_read, slice_get_within}
use Rattle.water_model.specs.History.{Follows, IsPartialHistory}
use Rattle.water_model.specs.Indices.{numbers_from}
use Rattle.water_model.specs.Lookups.{of_entry}
use Rattle.water_model.specs.declared.types.Basin.{Basin}
use Rattle.water_model.specs.declared.types.Series.{Series}
use Rattle.water_model.specs.declared.types.MonthRecord.{MonthRecord}

-- what holds of all holds of the entry at an index
pub all_at : {X : Type 0} (P : X → Type 0) (xs : List X) (k : ℕ) (x : X) → All P xs → slice_get xs k ≡ Some x → P x
all_at P xs k x h e = subst P (get_or_from_slice_get xs k x x e) (h k x (slice_get_within xs k x e))

-- what is said of an entry, where it was read
pub entry_is : {X Y : Type 0} (xs : List X) (k : ℕ) (x : X) (f : X → Y) (default : Y) → k < length xs →
    x ≡ get_or xs k x → of_entry xs k f default ≡ f x
entry_is xs k x f default l read =
    ap (λ o. unwrap_or (option_map f o) default) (slice_get_read xs (length xs) k x refl l read)

-- an entry, where more stands after
pub get_before : {X : Type 0} (xs ys : List X) (k : ℕ) (x : X) → slice_get xs k ≡ Some x →
    slice_get (xs ++ ys) k ≡ Some x
get_before [] ys k x h = cc
get_before (y ∷ xs) ys zero x h = h
get_before (y ∷ xs) ys (suc k) x h = get_before xs ys k x h

-- the entry after a prefix
pub get_after : {X : Type 0} (prefix rest : List X) (x : X) → slice_get (prefix ++ x ∷ rest) (length prefix) ≡ Some x
get_after [] rest x = refl
get_after (y ∷ prefix) rest x = get_after prefix rest x

-- an entry of a prefix
pub get_prefix : {X : Type 0} (xs : List X) (i j : ℕ) (x : X) → slice_get (take i xs) j ≡ Some x → (j < i) ×
    (slice_get xs j ≡ Some x)
get_prefix [] zero j x h = cc
get_prefix [] (suc i) j x h = cc
get_prefix (y ∷ ys) zero j x h = cc
get_prefix (y ∷ ys) (suc i) zero x h = (omega arith, h)
get_prefix (y ∷ ys) (suc i) (suc j) x h = let r = get_prefix ys i j x h in (omega (arith, r.0), r.1)

-- a list that is written over from end to end
pub whole_rows : {X : Type 0} (old prefix : List X) → length prefix ≡ length old →
    take (length old) (prefix ++ drop (length prefix) old) ≡ prefix
whole_rows old prefix len = rw (sym len) (take_at prefix (drop (length prefix) old) (length prefix) refl)

-- numbers that are all 0
pub no_numbers : (n k : ℕ) → slice_index (replicate n 0) k ≡ 0
no_numbers zero k = refl
no_numbers (suc n) zero = refl
no_numbers (suc n) (suc k) = no_numbers n k

-- where no two indices have the same name, a name is that of one index
pub once : {X : Type 0} (name : ℕ → X) (n : ℕ) → ((i j : ℕ) → i < j → j < n → name i ≢ name j) → (i j : ℕ) → i < n →
    j < n → name i ≡ name j → i ≡ j
once name n apart i j l m same = elim (cases_order i j) [
  | inl is ↦ is
  | inr other ↦ elim other [
    | inl below ↦ absurd (apart i j below m same)
    | inr above ↦ absurd (apart j i above l (sym same))
  ]
]

-- one number more
pub numbers_more : (from n : ℕ) → numbers_from from (suc n) ≡ numbers_from from n ++ (from + n) ∷ []
unfolding numbers_from
numbers_more from zero = ap (λ k. k ∷ []) (omega arith)
numbers_more from (suc n) =
    ap (λ xs. from ∷ xs) (numbers_more (suc from) n ∙ ap (λ k. numbers_from (suc from) n ++ k ∷ []) (omega arith))

-- the prefix of a partial history is one
pub prefix_partial : (b : Basin) (series : Series) (records : List MonthRecord) (i : ℕ) →
    IsPartialHistory b series records → IsPartialHistory b series (take i records)
prefix_partial b series records i h = record {
  within = omega (arith, length-take i records, h.within);
  each = λ j m e. (let r = get_prefix records i j m e in
      subst (λ (xs : List MonthRecord). Follows b series xs m) (sym (take-take j i records (omega (arith, r.0))))
      (h.each j m r.1));
}
