-- What the lines of a month say.
use Rattle.std.proofs.Common.{◌≡◌, ℕ, suc, ◌<◌, Bool, true, false, refl, sym, ap, ◌∙◌, arith, inl, inr, List, []}
use Rattle.std.proofs.Common.{◌∷◌, ◌++◌, length, map, fold, replicate, append_assoc, length-append}
use Rattle.std.specs.Prelude.{Some, ◌⊎◌, slice_index, slice_set}
use Rattle.std.proofs.Math.ListN.{length-set}
use Rattle.std.proofs.lemmas.Bool.{cases_eq}
use Rattle.std.proofs.lemmas.List.{get_or-set_other}
use Rattle.std.proofs.lemmas.Grind.{get_or-set_at, same_number_lists}
use Rattle.water_model.specs.declared.types.Basin.{Basin}
use Rattle.water_model.specs.declared.types.Series.{Series}
use Rattle.water_model.specs.Indices.{members_from}
use Rattle.result_lines.specs.Text.{call_items}
use Rattle.result_reader.specs.ReadSoFar.{ReadSoFar, read_item}
use Rattle.water_model.specs.CutSets.{set_of, with_set}
use Rattle.result_lines.specs.declared.item.Item.TheVariants as line
use Rattle.water_model.proofs.Order.{Has}
use Rattle.water_model.proofs.SetEntries.{entry_set, set_entry, set_twice}

-- a list with numbers set at some indices
abbrev pub set_all : List ℕ → (ℕ → ℕ) → List ℕ → List ℕ
set_all [] a ys = ys
set_all (x ∷ xs) a ys = set_all xs a (slice_set ys x (a x))

pub length-set_all : (xs : List ℕ) (a : ℕ → ℕ) (ys : List ℕ) → length (set_all xs a ys) ≡ length ys
length-set_all [] a ys = refl
length-set_all (x ∷ xs) a ys = length-set_all xs a (slice_set ys x (a x)) ∙ length-set ys x (a x)

-- at an index that is set stands its number, and at each other index what stood there
pub set_all-other : (xs : List ℕ) (a : ℕ → ℕ) (ys : List ℕ) (k : ℕ) → (Has xs k → ⊥) →
    slice_index (set_all xs a ys) k ≡ slice_index ys k
set_all-other [] a ys k h = refl
set_all-other (x ∷ xs) a ys k h =
    set_all-other xs a (slice_set ys x (a x)) k (λ j. h (inr j)) ∙ get_or-set_other ys x k (a x) 0 (λ e. h (inl e))

set_all-keeps : (xs : List ℕ) (a : ℕ → ℕ) (ys : List ℕ) (k : ℕ) → k < length ys → slice_index ys k ≡ a k →
    slice_index (set_all xs a ys) k ≡ a k
set_all-keeps [] a ys k l h = h
set_all-keeps (x ∷ xs) a ys k l h =
    set_all-keeps xs a (slice_set ys x (a x)) k (omega (arith, length-set ys x (a x)))
    (elim (cases_eq k x) [ inl e ↦ here e | inr n ↦ get_or-set_other ys x k (a x) 0 n ∙ h ])
  where
    here : k ≡ x → slice_index (slice_set ys x (a x)) k ≡ a k
    here e = get_or-set_at ys x k (a x) 0 e (omega arith) ∙ ap a (sym e)

pub set_all-has : (xs : List ℕ) (a : ℕ → ℕ) (ys : List ℕ) (k : ℕ) → k < length ys → Has xs k →
    slice_index (set_all xs a ys) k ≡ a k
set_all-has [] a ys k l h = absurd h
set_all-has (x ∷ xs) a ys k l (inr h) =
    set_all-has xs a (slice_set ys x (a x)) k (omega (arith, length-set ys x (a x))) h
set_all-has (x ∷ xs) a ys k l (inl e) = grind (arith, set_all-keeps, length-set, get_or-set_at)

-- a list whose numbers are all set is the list of these numbers
pub set_all-whole : (xs ys zs : List ℕ) → length ys ≡ length zs →
    ((k : ℕ) → k < length zs → Has xs k ⊎ ((Has xs k → ⊥) × (slice_index ys k ≡ slice_index zs k))) →
    set_all xs (λ k. slice_index zs k) ys ≡ zs
set_all-whole xs ys zs len each = grind (arith, same_number_lists, length-set_all, set_all-has, set_all-other)

-- The sets of a month.

pub fold-both : {A B : Type 0} (f : A → B → A) (t : A) (xs ys : List B) → fold f t (xs ++ ys) ≡ fold f (fold f t xs) ys
fold-both f t [] ys = refl
fold-both f t (x ∷ xs) ys = fold-both f (f t x) xs ys

slice_set-after : (prefix rest : List Bool) (x y : Bool) →
    slice_set (prefix ++ x ∷ rest) (length prefix) y ≡ prefix ++ y ∷ rest
slice_set-after [] rest x y = refl
slice_set-after (z ∷ prefix) rest x y = ap (λ xs. z ∷ xs) (slice_set-after prefix rest x y)

-- a month with a right's set
abbrev pub put_cut : ReadSoFar → ℕ → List Bool → ReadSoFar
put_cut t right set = record t { now = record t.now { cuts = with_set t.now.cuts right (Some set) } }

-- the `in` lines of a set, after those of its prefix
tell_members : (b : Basin) (series : Series) (right : ℕ) (set prefix : List Bool) (k : ℕ) (t : ReadSoFar) →
    t.calling ≡ Some right → length prefix ≡ k →
    right < length t.now.cuts.sets → set_of t.now.cuts right ≡ Some (prefix ++ replicate (length set) false) →
    fold (read_item b series) t (map (λ n. line.Member n) (members_from k set)) ≡ put_cut t right (prefix ++ set)
unfolding members_from
tell_members b series right [] prefix k t c n l h = grind (arith, set_entry)
tell_members b series right (true ∷ set) prefix k t c n l h =
    let some : List Bool = prefix ++ true ∷ replicate (length set) false in
    grind (
      arith,
      length-append,
      set_twice,
      append_assoc,
      slice_set-after,
      entry_set,
      length-set,
      tell_members b series right set (prefix ++ true ∷ []) (suc k) (put_cut t right some) c
          (omega (arith, length-append prefix (true ∷ [])))
          (omega (arith, length-set t.now.cuts.sets right (Some some))) (entry_set t.now.cuts.sets right (Some some) l
          ∙ ap (λ xs. Some xs) (sym (append_assoc prefix (true ∷ []) (replicate (length set) false)))),
    )
tell_members b series right (false ∷ set) prefix k t c n l h =
    tell_members b series right set (prefix ++ false ∷ []) (suc k) t c
    (omega (arith, length-append prefix (false ∷ [])))
    l (h ∙ ap (λ xs. Some xs) (sym (append_assoc prefix (false ∷ []) (replicate (length set) false))))
    ∙ ap (λ xs. put_cut t right xs) (append_assoc prefix (false ∷ []) set)

-- the lines of one right's set
pub tell_call : (b : Basin) (series : Series) (right : ℕ) (set : List Bool) (t : ReadSoFar) →
    right < length t.now.cuts.sets → length set ≡ length b.nodes →
    fold (read_item b series) t (call_items right (Some set)) ≡ record (put_cut t right set) { calling = Some right }
tell_call b series right set t l sized =
    tell_members b series right set [] 0
    (record (put_cut t right (replicate (length b.nodes) false)) { calling = Some right }) refl refl
    (omega (arith, length-set t.now.cuts.sets right (Some (replicate (length b.nodes) false))))
    (entry_set t.now.cuts.sets right (Some (replicate (length b.nodes) false)) l
    ∙ ap (λ n. Some (replicate n false)) (sym sized))
    ∙ ap (λ xs. record t { now = record t.now { cuts = record t.now.cuts { sets = xs } }; calling = Some right })
    (set_twice t.now.cuts.sets right (Some (replicate (length b.nodes) false)) (Some set))
