-- Chains are built from the last index back.
use Rattle.std.proofs.Common.{◌≡◌, ◌∙◌, ℕ, zero, suc, ◌+◌, ◌<◌, ◌≤◌, Bool, false, List, refl, sym, ap, subst, arith}
use Rattle.std.proofs.Common.{length, get_or, replicate, inl, inr}
use Rattle.std.proofs.lemmas.Bool.{cases_eq, eq-eqb, ne_eqb}
use Rattle.std.proofs.lemmas.List.{get_or-set_same, get_or-set_other}
use Rattle.std.specs.Prelude.{Option, Some, None, slice_set, ◌⊎◌}
use Rattle.chains.specs.Chains.{IsFirst, is_key, has_key}

-- the chains of the indices from one on
pub record AreFrom (key_of : ℕ → Option ℕ) (count from : ℕ) (first next : List (Option ℕ)) : Type 0 where
  pub firsts : (key : ℕ) → IsFirst (has_key key_of key) from count (get_or first key None)
  pub nexts : (s key : ℕ) → from ≤ s → s < count → key_of s ≡ Some key →
      IsFirst (has_key key_of key) (s + 1) count (get_or next s None)
  pub others : (s : ℕ) → (s < from) ⊎ (key_of s ≡ None) → get_or next s None ≡ None

-- nothing is read of a list without entries
nothing : (n k : ℕ) → get_or (replicate {A = Option ℕ} n None) k None ≡ None
nothing zero k = refl
nothing (suc n) zero = refl
nothing (suc n) (suc k) = nothing n k

-- no index stands after the last
pub chains_start : (key_of : ℕ → Option ℕ) (count keys : ℕ) {first next : List (Option ℕ)} →
    first ≡ replicate keys None → next ≡ replicate count None → AreFrom key_of count count first next
chains_start key_of count keys firsts nexts = record {
  firsts = λ key. subst (IsFirst (has_key key_of key) count count)
      (sym (ap (λ (xs : List (Option ℕ)). get_or xs key None) firsts ∙ nothing keys key))
      (λ s from below. absurd (omega arith));
  nexts = λ s key from below e. absurd (omega arith);
  others = λ s h. ap (λ (xs : List (Option ℕ)). get_or xs s None) nexts ∙ nothing count s;
}

-- an index before the others that does not pass
first_skip : (test : ℕ → Bool) (k count : ℕ) (o : Option ℕ) → test k ≡ false → IsFirst test (k + 1) count o →
    IsFirst test k count o
first_skip test k count None fails h = λ s a b. elim (cases_eq s k) [
  | inl same ↦ ap test same ∙ fails
  | inr other ↦ h s (omega arith) b
]
first_skip test k count (Some at) fails h = (
  (let a = h.0 in omega arith),
  h.1,
  h.2,
  λ s a b. elim (cases_eq s k) [
    | inl same ↦ ap test same ∙ fails
    | inr other ↦ h.3 s (omega arith) b
  ],
)

none_or_some : (o : Option ℕ) (key : ℕ) → o ≡ None → o ≡ Some key → ⊥
none_or_some o key none some = cc

same_key : (o : Option ℕ) (own key : ℕ) → o ≡ Some own → o ≡ Some key → key ≡ own
same_key o own key e f = cc

-- one more index, which has no key
pub chains_pass : (key_of : ℕ → Option ℕ) (count k : ℕ) {first next : List (Option ℕ)} → key_of k ≡ None →
    AreFrom key_of count (k + 1) first next → AreFrom key_of count k first next
chains_pass key_of count k {first} none h = record {
  firsts = λ key. first_skip (has_key key_of key) k count (get_or first key None) (ap (λ o. is_key o key) none)
      (h.firsts key);
  nexts = λ s key from l e. elim (cases_eq s k) [
    | inl same ↦ absurd (none_or_some (key_of k) key none (ap key_of (sym same) ∙ e))
    | inr other ↦ h.nexts s key (omega arith) l e
  ];
  others = λ s o. h.others s (elim o [ inl below ↦ inl (omega arith) | inr none ↦ inr none ]);
}

-- one more index, before those with its key
pub chains_more : (key_of : ℕ → Option ℕ) (count k own : ℕ) {first next : List (Option ℕ)} {x : Option ℕ} → k < count →
    k < length next → own < length first → key_of k ≡ Some own → x ≡ get_or first own None →
    AreFrom key_of count (k + 1) first next →
    AreFrom key_of count k (slice_set first own (Some k)) (slice_set next k x)
chains_more key_of count k own {first} {next} {x} below fits inside at read h = record {
  firsts = λ key. elim (cases_eq key own) [
    | inl same ↦
        subst (λ u. IsFirst (has_key key_of u) k count (get_or (slice_set first own (Some k)) u None)) (sym same)
        (subst (IsFirst (has_key key_of own) k count) (sym (get_or-set_same first own (Some k) None inside))
        (omega arith, below, ap (λ o. is_key o own) at ∙ eq-eqb own own refl, λ s from before. absurd (omega arith)))
    | inr other ↦
        subst (IsFirst (has_key key_of key) k count) (sym (get_or-set_other first own key (Some k) None other))
        (first_skip (has_key key_of key) k count (get_or first key None)
        (ap (λ o. is_key o key) at ∙ ne_eqb own key (λ e. other (sym e))) (h.firsts key))
  ];
  nexts = λ s key from l e. elim (cases_eq s k) [
    | inl same ↦
        subst (λ s. IsFirst (has_key key_of key) (s + 1) count (get_or (slice_set next k x) s None)) (sym same)
        (subst (IsFirst (has_key key_of key) (k + 1) count) (sym (get_or-set_same next k x None fits ∙ read))
        (subst (λ u. IsFirst (has_key key_of key) (k + 1) count (get_or first u None))
        (same_key (key_of k) own key at (ap key_of (sym same) ∙ e)) (h.firsts key)))
    | inr other ↦
        subst (IsFirst (has_key key_of key) (s + 1) count) (sym (get_or-set_other next k s x None other))
        (h.nexts s key (omega arith) l e)
  ];
  others = λ s o. elim (cases_eq s k) [
    | inl same ↦ absurd (elim o [
      | inl before ↦ omega arith
      | inr none ↦ none_or_some (key_of s) own none (ap key_of same ∙ at)
    ])
    | inr other ↦
        get_or-set_other next k s x None other
        ∙ h.others s (elim o [ inl before ↦ inl (omega arith) | inr none ↦ inr none ])
  ];
}
