-- The search for a holder, from one right on the link to the next.
use Rattle.std.proofs.Common.{◌≡◌, ℕ, suc, ◌+◌, ◌<◌, ◌≤◌, Bool, true, false, refl, sym, ap, subst, ◌∙◌, arith, List}
use Rattle.std.proofs.Common.{length, inl, inr, add-one}
use Rattle.std.specs.Prelude.{slice_index, Option, Some, None, find, if◌then◌else◌, ◌&&◌, ◌==◌, ◌⊎◌, ◌≢◌}
use Rattle.std.proofs.lemmas.Bool.{cases_order}
use Rattle.std.proofs.lemmas.Bool.Decides.{nat_tests}
use Rattle.water_model.specs.Basin.{is_senior, is_at, instream_link}
use Rattle.water_model.specs.Indices.{seniors_first}
use Rattle.water_model.specs.Rights.{AreStrict}
use Rattle.water_model.specs.declared.types.Basin.{Basin}
use Rattle.water_model.proofs.Seniority.{not_senior_to_itself, senior_trans, senior_total}
use Rattle.water_model.proofs.Order.{Has, seniors_have, seniors_below, seniors_ordered, find-passes, find-first}
use Rattle.water_model.proofs.Order.{find-none}
use Rattle.chains.specs.Chains.{has_key}
use Rattle.rights_roll.specs.Rolls.{IsNextOn, link_in}
use Rattle.cut_book.specs.Holders.{holder_of, holds_amount, more_senior}

clash : true ≡ false → ⊥
clash e = cc

-- the most senior of the first rights that pass, or none where none does
abbrev pub IsFirstOf : Basin → (ℕ → Bool) → ℕ → Option ℕ → Type 0
IsFirstOf b p n None = (s : ℕ) → s < n → p s ≡ false
IsFirstOf b p n (Some first) = (first < n) × (p first ≡ true) ×
    ((s : ℕ) → s < n → p s ≡ true → (s ≡ first) ⊎ (is_senior b first s ≡ true))

-- indices that don't pass may be added
first_skips : (b : Basin) (p : ℕ → Bool) (m n : ℕ) (o : Option ℕ) → m ≤ n → ((k : ℕ) → m ≤ k → k < n → p k ≡ false) →
    IsFirstOf b p m o → IsFirstOf b p n o
first_skips b p m n None h none first = λ s l. elim (cases_order s m) [
  | inl same ↦ none s (omega arith) l
  | inr o ↦ elim o [ inl before ↦ first s before | inr after ↦ none s (omega arith) l ]
]
first_skips b p m n (Some at) h none first = (
  omega (arith, first.0),
  first.1,
  λ s l passes. elim (cases_order s m) [
    | inl same ↦ absurd (clash (sym passes ∙ none s (omega arith) l))
    | inr o ↦
        elim o [
          | inl before ↦ first.2 s before passes
          | inr after ↦
              absurd (clash (sym passes ∙ none s (omega arith) l))
        ]
  ],
)

below_or_last : (s n : ℕ) → s < suc n → (s < n) ⊎ (s ≡ n)
below_or_last s n h = grind arith

-- one more right that doesn't pass, and one that does
first_passed : (b : Basin) (p : ℕ → Bool) (n : ℕ) (o : Option ℕ) → p n ≡ false → IsFirstOf b p n o →
    IsFirstOf b p (suc n) o
first_passed b p n o none first =
    first_skips b p n (suc n) o (omega arith) (λ k a l. (let same : n ≡ k = omega arith in ap p (sym same) ∙ none))
    first

first_more : (b : Basin) (p : ℕ → Bool) (n : ℕ) (o : Option ℕ) → AreStrict b.rights → n < length b.rights → p n ≡ true →
    IsFirstOf b p n o → IsFirstOf b p (suc n) (more_senior b o n)
first_more b p n None strict l passes first = (
  omega arith,
  passes,
  λ s k q. elim (below_or_last s n k) [
    | inl before ↦ absurd (clash (sym q ∙ first s before))
    | inr same ↦ inl same
  ],
)
first_more b p n (Some at) strict l passes first = by_test (is_senior b n at) refl
  where
    by_test : (t : Bool) → is_senior b n at ≡ t → IsFirstOf b p (suc n) (if t then Some n else Some at)
    by_test true e = (
      omega arith,
      passes,
      λ s k q. elim (below_or_last s n k) [
        | inr same ↦ inl same
        | inl before ↦ elim (first.2 s before q) [
          | inl is ↦ inr (ap (λ z. is_senior b n z) is ∙ e)
          | inr later ↦ inr (senior_trans b.rights n at s e later)
        ]
      ],
    )
    by_test false e = (
      omega (arith, first.0),
      first.1,
      λ s k q. elim (below_or_last s n k) [
        | inl before ↦ first.2 s before q
        | inr same ↦ inr (ap (λ z. is_senior b at z) same ∙ other)
      ],
    )
      where
        other : is_senior b at n ≡ true
        other = elim (senior_total b.rights strict at n (omega (arith, first.0)) l (λ same. omega (arith, first.0))) [
          | inl senior ↦ senior
          | inr senior ↦ absurd (clash (sym senior ∙ e))
        ]

-- the most senior of all that pass is found first along the order of seniority
first_is_found : (b : Basin) (p : ℕ → Bool) (o : Option ℕ) → AreStrict b.rights → IsFirstOf b p (length b.rights) o →
    o ≡ find p (seniors_first b)
first_is_found b p None strict first = by_find (find p (seniors_first b)) refl
  where
    by_find : (f : Option ℕ) → find p (seniors_first b) ≡ f → None ≡ f
    by_find None e = refl
    by_find (Some c) e = let is = find-passes p (seniors_first b) c e in
        absurd (clash (sym is.0 ∙ first c (seniors_below b.rights c is.1)))
first_is_found b p (Some at) strict first = by_find (find p (seniors_first b)) refl
  where
    there : Has (seniors_first b) at
    there = seniors_have b.rights at first.0

    never : (s : ℕ) → is_senior b s s ≡ true → ⊥
    never s h = clash (sym h ∙ not_senior_to_itself b s)

    by_find : (f : Option ℕ) → find p (seniors_first b) ≡ f → Some at ≡ f
    by_find None e = absurd (clash (sym first.1 ∙ find-none p (seniors_first b) at e there))
    by_find (Some c) e =
        let is = find-passes p (seniors_first b) c e in
        elim (find-first b.rights p (seniors_first b) c at (seniors_ordered b.rights strict) e there first.1) [
          | inl same ↦ ap Some same
          | inr before ↦ elim (first.2 c (seniors_below b.rights c is.1) is.0) [
            | inl same ↦ ap Some (sym same)
            | inr later ↦ absurd (never c (senior_trans b.rights c at c before later))
          ]
        ]

-- how far the search has come along the link, at the next right on it
pub record IsHeldSoFar (b : Basin) (delivered : List ℕ) (link amount : ℕ) (holder next : Option ℕ) : Type 0 where
  pub start : ℕ
  pub within : start ≤ length b.rights
  pub at : IsNextOn b.rights link start next
  pub so_far : IsFirstOf b (holds_amount b delivered link amount) start holder

off_link : (b : Basin) (delivered : List ℕ) (link amount s : ℕ) → has_key (link_in b.rights) link s ≡ false →
    holds_amount b delivered link amount s ≡ false
off_link b delivered link amount s off = ap (λ t. t && slice_index delivered s == amount) off

on_link : (b : Basin) (delivered : List ℕ) (link amount s : ℕ) → has_key (link_in b.rights) link s ≡ true →
    holds_amount b delivered link amount s ≡ (slice_index delivered s == amount)
on_link b delivered link amount s on = ap (λ t. t && slice_index delivered s == amount) on

pub held_start : (b : Basin) (delivered : List ℕ) (link amount : ℕ) (next : Option ℕ) → IsNextOn b.rights link 0 next →
    IsHeldSoFar b delivered link amount None next
held_start b delivered link amount next at =
    record { start = 0; within = omega arith; at = at; so_far = λ s l. absurd (omega arith) }

-- one right of the link more
pub held_more : (b : Basin) (delivered : List ℕ) (link amount right : ℕ) (holder more next : Option ℕ) →
    AreStrict b.rights → IsHeldSoFar b delivered link amount holder (Some right) →
    more ≡ (if slice_index delivered right == amount then more_senior b holder right else holder) →
    IsNextOn b.rights link (right + 1) next →
    IsHeldSoFar b delivered link amount more next
held_more b delivered link amount right holder more next strict so is further = record {
  start = suc right;
  within = omega (arith, so.at.1);
  at = subst (λ (n : ℕ). IsNextOn b.rights link n next) (add-one right) further;
  so_far = subst (λ (o : Option ℕ). IsFirstOf b (holds_amount b delivered link amount) (suc right) o) (sym is)
      (by_test (slice_index delivered right == amount) refl);
}
  where
    before : IsFirstOf b (holds_amount b delivered link amount) right holder
    before = first_skips b (holds_amount b delivered link amount) so.start right holder so.at.0
        (λ k l u. off_link b delivered link amount k (so.at.3 k l u)) so.so_far

    by_test : (t : Bool) → (slice_index delivered right == amount) ≡ t →
        IsFirstOf b (holds_amount b delivered link amount) (suc right)
        (if t then more_senior b holder right else holder)
    by_test true e =
        first_more b (holds_amount b delivered link amount) right holder strict so.at.1
        (on_link b delivered link amount right so.at.2 ∙ e) before
    by_test false e =
        first_passed b (holds_amount b delivered link amount) right holder
        (on_link b delivered link amount right so.at.2 ∙ e) before

-- all rights of the link
pub held_all : (b : Basin) (delivered : List ℕ) (link amount : ℕ) (holder : Option ℕ) → AreStrict b.rights →
    IsHeldSoFar b delivered link amount holder None →
    holder ≡ holder_of b delivered link amount
unfolding holder_of
held_all b delivered link amount holder strict so =
    first_is_found b (holds_amount b delivered link amount) holder strict
    (first_skips b (holds_amount b delivered link amount) so.start (length b.rights) holder so.within
    (λ k l u. off_link b delivered link amount k (so.at k l u)) so.so_far)
