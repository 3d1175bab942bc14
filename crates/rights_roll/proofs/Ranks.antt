-- The rights by priority, in a map.
use Rattle.std.proofs.Common.{◌≡◌, ℕ, zero, suc, ◌+◌, ◌<◌, ◌≤◌, Bool, true, false, cond, List, [], ◌∷◌, length, map}
use Rattle.std.proofs.Common.{take, get_or, Option, Some, None, Less, refl, sym, ap, ◌∙◌, inl, inr, arith, below_more}
use Rattle.std.proofs.lemmas.List.{map_more, length-map, length-take-le, take-map, take_all}
use Rattle.std.proofs.lemmas.List.Quantifiers.{position-Some}
use Rattle.std.proofs.lemmas.List.Sums.{position_or_len_is}
use Rattle.std.proofs.lemmas.Map.Keys.{sorted_head, sorted_tail}
use Rattle.std.proofs.lemmas.Map.Views.{All-found}
use Rattle.std.specs.BTreeMap.{BTreeMap, IsOrdered, Updates, values}
use Rattle.std.specs.BTreeMap as tree
use Rattle.std.specs.List.{All, AllByRecursion, position, position_or_len}
use Rattle.std.specs.List.Sorted.{IsStrictlySortedBy}
use Rattle.std.specs.Map.{lookup, keys_of, values_of}
use Rattle.std.specs.Option.{option_or}
use Rattle.std.specs.Ordering.{is_eq}
use Rattle.std.specs.Str.{bytes_eq}
use Rattle.std.proofs.lemmas.Bool.{lt-ltb, cases_Bool, false_from_ne_true, false≢true}
use Rattle.water_model.specs.Indices.{by_seniority}
use Rattle.water_model.specs.Rights.{priority, priority_in, is_senior_in, is_lower, AreStrict}
use Rattle.water_model.specs.declared.types.Right.{Right}
use Rattle.water_model.proofs.Order.{Has, IsOrdered as IsSeniorsFirst}
use Rattle.rights_roll.specs.Priorities.{numbers_of, priority_cmp}
use Rattle.rights_roll.specs.RollFaults.{same_seniority}
use Rattle.rights_roll.specs.Tables.{AreRanks}
use Rattle.rights_roll.specs.declared.RollRefused.TheVariants.{SameSeniority}
use Rattle.rights_roll.specs.declared.priority.Priority.{Priority}
use Rattle.rights_roll.proofs.Indices.{same_bytes, bytes_same, position-append, position_or_len-found}
use Rattle.rights_roll.proofs.Indices.{position_or_len-past}
use Rattle.rights_roll.proofs.PriorityOrder.{priority_total, same_priority, lower_priority}
use Rattle.rights_roll.proofs.SameSeniority.{IsFresh, first_like, same_seniority-found, same_seniority-none}
use Rattle.rights_roll.proofs.SameSeniority.{priority_in-is, strict-from_none}
use Rattle.rights_roll.proofs.Seniors.{is_by_seniority}

-- the first rights by priority, no two with the same
pub record AreFresh (rights : List Right) (ranks : BTreeMap Priority ℕ) (i : ℕ) : Type 0 where
  pub ranked : AreRanks (take i rights) ranks
  pub fresh : (k : ℕ) → k < i → IsFresh (map priority rights) k

-- the first right with a priority, among the first i rights
abbrev pub at_prefix : List Right → ℕ → Priority → Option ℕ
at_prefix rights i p = position (bytes_eq (numbers_of p)) (take i (map priority rights))

prefix_is : {rights : List Right} {ranks : BTreeMap Priority ℕ} {i : ℕ} (p : Priority) → AreFresh rights ranks i →
    tree.get priority_cmp ranks p ≡ at_prefix rights i p
prefix_is {rights} {ranks} {i} p fresh =
    fresh.ranked p ∙ ap (position (bytes_eq (numbers_of p))) (sym (take-map priority i rights))

key_is : (rights : List Right) (i : ℕ) (r : Right) (p : Priority) → i < length rights → r ≡ get_or rights i r →
    numbers_of p ≡ priority r → numbers_of p ≡ get_or (map priority rights) i []
key_is rights i r p below is parts = parts ∙ at_index rights i r below is
  where
    at_index : (xs : List Right) (k : ℕ) (x : Right) → k < length xs → x ≡ get_or xs k x →
        priority x ≡ get_or (map priority xs) k []
    at_index [] k x h e = absurd (omega arith)
    at_index (y ∷ ys) zero x h e = ap priority e
    at_index (y ∷ ys) (suc k) x h e = at_index ys k x (omega arith) e

-- a right whose priority the map has
pub ranks-found : {rights : List Right} {ranks : BTreeMap Priority ℕ} {i first : ℕ} {r : Right} (p : Priority) →
    i < length rights → r ≡ get_or rights i r → numbers_of p ≡ priority r →
    AreFresh rights ranks i → Some first ≡ tree.get priority_cmp ranks p →
    same_seniority rights ≡ Some (SameSeniority first i)
ranks-found {rights} {ranks} {i} {first} {r} p below is parts fresh found =
    let at = position_or_len-found (bytes_eq (numbers_of p)) (map priority rights) i first []
    (omega (arith, length-map rights priority)) (sym (prefix_is p fresh) ∙ sym found) in
    let like : first_like (map priority rights) i ≡ first =
    ap (λ q. position_or_len (bytes_eq q) (map priority rights)) (sym (key_is rights i r p below is parts)) ∙ at.1 in
    same_seniority-found rights i below fresh.fresh (omega (arith, at.0, like))
    ∙ ap (λ k. Some (SameSeniority k i)) like

-- one more right
pub ranks-more : {rights : List Right} {old new : BTreeMap Priority ℕ} {i : ℕ} {r : Right} (p : Priority) →
    i < length rights → r ≡ get_or rights i r → numbers_of p ≡ priority r →
    None ≡ tree.get priority_cmp old p → Updates priority_cmp old new p (Some i) → AreFresh rights old i →
    AreFresh rights new (i + 1)
ranks-more {rights} {old} {new} {i} {r} p below is parts absent updates fresh = record {
  ranked = λ q. updates.0 q ∙ (ap (λ t. cond t (Some i) (tree.get priority_cmp old q)) (same_priority p q)
      ∙ (by_test (bytes_eq (numbers_of p) (numbers_of q)) (tree.get priority_cmp old q)
      (λ same. none_at q (bytes_same (numbers_of p) (numbers_of q) same)) ∙ target q));
  fresh = below_more (λ k. IsFresh (map priority rights) k) i fresh.fresh here;
}
  where
    prefix : position (bytes_eq (numbers_of p)) (take i (map priority rights)) ≡ None
    prefix = sym (prefix_is p fresh) ∙ sym absent

    here : IsFresh (map priority rights) i
    here =
        let past = position_or_len-past (bytes_eq (numbers_of p)) (map priority rights) i []
        (omega (arith, length-map rights priority)) prefix in
        omega (
          arith,
          past,
          ap (λ q. position_or_len (bytes_eq q) (map priority rights)) (key_is rights i r p below is parts),
        )

    none_at : (q : Priority) → numbers_of p ≡ numbers_of q → tree.get priority_cmp old q ≡ None
    none_at q same =
        prefix_is q fresh ∙ (ap (λ n. position (bytes_eq n) (take i (map priority rights))) (sym same) ∙ prefix)

    by_test : (t : Bool) (o : Option ℕ) → (t ≡ true → o ≡ None) → cond t (Some i) o ≡ option_or o (cond t (Some i) None)
    by_test true o none = ap (λ x. option_or x (Some i)) (sym (none refl))
    by_test false None none = refl
    by_test false (Some x) none = refl

    flip : (xs ys : List ℕ) → bytes_eq xs ys ≡ bytes_eq ys xs
    flip xs ys = elim (cases_Bool (bytes_eq ys xs)) [
      | inl same ↦ same_bytes xs ys (sym (bytes_same ys xs same)) ∙ sym same
      | inr apart ↦ false_from_ne_true _ (λ h. false≢true (sym apart ∙ same_bytes ys xs (sym (bytes_same xs ys h))))
          ∙ sym apart
    ]

    target : (q : Priority) →
        option_or (tree.get priority_cmp old q) (cond (bytes_eq (numbers_of p) (numbers_of q)) (Some i) None)
        ≡ position (bytes_eq (numbers_of q)) (map priority (take (i + 1) rights))
    target q =
        let n : length (map priority (take i rights)) ≡ i =
        length-map (take i rights) priority ∙ length-take-le i rights (omega arith) in
        ap (λ o. option_or o (cond (bytes_eq (numbers_of p) (numbers_of q)) (Some i) None)) (fresh.ranked q)
        ∙ (ap (λ t. option_or (position (bytes_eq (numbers_of q)) (map priority (take i rights)))
        (cond t (Some i) None))
        (flip (numbers_of p) (numbers_of q) ∙ ap (bytes_eq (numbers_of q)) (parts ∙ ap priority is))
        ∙ (ap (λ k. option_or (position (bytes_eq (numbers_of q)) (map priority (take i rights)))
        (cond (bytes_eq (numbers_of q) (priority (get_or rights i r))) (Some k) None)) (sym n)
        ∙ (sym (position-append (bytes_eq (numbers_of q)) (map priority (take i rights)) (priority (get_or rights i r)))
        ∙ ap (position (bytes_eq (numbers_of q))) (sym (map_more priority rights i r below)))))

-- all rights
pub ranks-all : {rights : List Right} {ranks : BTreeMap Priority ℕ} {i : ℕ} → length rights ≤ i →
    AreFresh rights ranks i → AreRanks rights ranks × (same_seniority rights ≡ None)
ranks-all {rights} {ranks} {i} past fresh = (
  λ p. fresh.ranked p ∙ ap (λ rs. position (bytes_eq (numbers_of p)) (map priority rs)) (take_all i rights past),
  same_seniority-none rights (λ k h. fresh.fresh k (omega arith)),
)

-- The values of the map are the order by seniority.

-- each entry has a right and its priority
AreEntries : List Right → List (Priority × ℕ) → Type 0
AreEntries rights [] = Unit {0}
AreEntries rights (e ∷ es) = (e.1 < length rights) × ((numbers_of e.0 ≡ priority_in rights e.1) × AreEntries rights es)

entry_is : (rights : List Right) (ranks : BTreeMap Priority ℕ) (p : Priority) (r : ℕ) → AreRanks rights ranks →
    tree.get priority_cmp ranks p ≡ Some r → (r < length rights) × (numbers_of p ≡ priority_in rights r)
entry_is rights ranks p r all found =
    let at = position-Some (bytes_eq (numbers_of p)) (map priority rights) r [] (sym (all p) ∙ found) in (
      omega (arith, at.0, length-map rights priority),
      bytes_same (numbers_of p) (get_or (map priority rights) r []) at.1 ∙ sym (priority_in-is rights r),
    )

are_entries : (rights : List Right) (ranks : BTreeMap Priority ℕ) → AreRanks rights ranks → (es : List (Priority × ℕ)) →
    All (λ e. tree.get priority_cmp ranks e.0 ≡ Some e.1) es → AreEntries rights es
unfolding AreEntries
are_entries rights ranks all [] found = tt
are_entries rights ranks all (e ∷ es) found =
    let first = entry_is rights ranks e.0 e.1 all (found 0 e (omega arith)) in
    (first.0, (first.1, are_entries rights ranks all es (λ k d h. found (suc k) d (omega arith))))

values-below : (rights : List Right) (es : List (Priority × ℕ)) (r : ℕ) → AreEntries rights es → Has (values_of es) r →
    r < length rights
unfolding AreEntries
values-below rights [] r entries h = absurd h
values-below rights (e ∷ es) r entries (inl is) = let first = entries.0 in omega (arith, first)
values-below rights (e ∷ es) r entries (inr h) = values-below rights es r entries.1.1 h

values-after : (rights : List Right) (p : Priority) (r : ℕ) (es : List (Priority × ℕ)) (s : ℕ) →
    numbers_of p ≡ priority_in rights r → AreEntries rights es →
    AllByRecursion (λ q. priority_cmp p q ≡ Less) (keys_of es) → Has (values_of es) s → is_senior_in rights r s ≡ true
unfolding AreEntries
values-after rights p r [] s is entries less h = absurd h
values-after rights p r (e ∷ es) s is entries less (inl same) =
    ap (λ n. is_lower n (priority_in rights s)) (sym is)
    ∙ (ap (λ k. is_lower (numbers_of p) (priority_in rights k)) same
    ∙ (ap (is_lower (numbers_of p)) (sym entries.1.0) ∙ lower_priority p e.0 less.0))
values-after rights p r (e ∷ es) s is entries less (inr h) = values-after rights p r es s is entries.1.1 less.1 h

values-ordered : (rights : List Right) (es : List (Priority × ℕ)) → AreEntries rights es →
    IsStrictlySortedBy priority_cmp (keys_of es) → IsSeniorsFirst rights (values_of es)
unfolding AreEntries
values-ordered rights [] entries sorted = tt
values-ordered rights (e ∷ es) entries sorted = (
  λ s h. values-after rights e.0 e.1 es s entries.1.0 entries.1.1 (sorted_head priority_cmp e.0 (keys_of es) sorted) h,
  values-ordered rights es entries.1.1 (sorted_tail priority_cmp e.0 (keys_of es) sorted),
)

has-lookup : (test : Priority → Bool) (es : List (Priority × ℕ)) (r : ℕ) → lookup test es ≡ Some r →
    Has (values_of es) r
has-lookup test [] r h = let none : None ≡ Some r = h in cc
has-lookup test (e ∷ es) r h = by_test (test e.0) refl (has-lookup test es r)
  where
    by_test : (t : Bool) → test e.0 ≡ t → (lookup test es ≡ Some r → Has (values_of es) r) → Has (values_of (e ∷ es)) r
    by_test true f further = let here : Some e.1 ≡ Some r = rw f at h in inl cc
    by_test false f further = inr (further (rw f at h))

-- the priority of the right at an index
priority_at : (rights : List Right) (r : ℕ) → r < length rights → (p : Priority) ×
    (numbers_of p ≡ get_or (map priority rights) r [])
priority_at [] r h = absurd (omega arith)
priority_at (x ∷ xs) zero h =
    (record { year = x.date.year; month = x.date.month; day = x.date.day; order = x.order }, refl)
priority_at (x ∷ xs) (suc r) h = priority_at xs r (omega arith)

-- each right is found by its priority
found_by_priority : (rights : List Right) (ranks : BTreeMap Priority ℕ) (r : ℕ) (p : Priority) → AreStrict rights →
    AreRanks rights ranks → r < length rights →
    numbers_of p ≡ get_or (map priority rights) r [] → tree.get priority_cmp ranks p ≡ Some r
found_by_priority rights ranks r p strict all below key = all p ∙ found
  where
    apart : (k : ℕ) → k < r → bytes_eq (numbers_of p) (get_or (map priority rights) k []) ≡ false
    apart k before = false_from_ne_true _ (λ e. strict k r before below (priority_in-is rights k
        ∙ (sym (bytes_same (numbers_of p) (get_or (map priority rights) k []) e)
        ∙ (key ∙ sym (priority_in-is rights r)))))

    place : position_or_len (bytes_eq (numbers_of p)) (map priority rights) ≡ r
    place = position_or_len_is (bytes_eq (numbers_of p)) (map priority rights) r []
        (omega (arith, length-map rights priority)) apart
        (λ l. same_bytes (numbers_of p) (get_or (map priority rights) r []) key)

    found : position (bytes_eq (numbers_of p)) (map priority rights) ≡ Some r
    found = rw place (rw (lt-ltb r (length (map priority rights)) (omega (arith, length-map rights priority))) refl)

has-right : (rights : List Right) (ranks : BTreeMap Priority ℕ) → AreStrict rights → AreRanks rights ranks → (r : ℕ) →
    r < length rights → Has (values ranks) r
has-right rights ranks strict all r below =
    let at = priority_at rights r below in
    has-lookup (λ k. is_eq (priority_cmp at.0 k)) ranks.entries r
    (found_by_priority rights ranks r at.0 strict all below at.1)

pub values_by_seniority : (rights : List Right) (ranks : BTreeMap Priority ℕ) → IsOrdered priority_cmp ranks →
    AreRanks rights ranks → same_seniority rights ≡ None → values ranks ≡ by_seniority rights
values_by_seniority rights ranks ordered all none =
    let strict = strict-from_none rights none in
    let entries = are_entries rights ranks all ranks.entries (All-found priority_total ranks ordered) in
    is_by_seniority rights (values ranks) strict (values-ordered rights ranks.entries entries ordered)
    (has-right rights ranks strict all) (λ r h. values-below rights ranks.entries r entries h)
