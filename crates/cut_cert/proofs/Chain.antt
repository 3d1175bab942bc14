-- What is kept on a link, from one right on it to the next.
use Rattle.std.proofs.Common.{◌≡◌, ℕ, zero, suc, ◌+◌, ◌<◌, ◌≤◌, Bool, true, false, refl, sym, ap, ◌∙◌, arith, List}
use Rattle.std.proofs.Common.{length, inl, inr, add-one}
use Rattle.std.specs.Prelude.{slice_index, Option, Some, None, max, if◌then◌else◌, ◌&&◌, ◌==◌, ◌⊎◌, ◌≢◌}
use Rattle.std.proofs.lemmas.Bool.Decides.{nat_tests}
use Rattle.finite_sums.specs.Sums.{greatest_where}
use Rattle.water_model.specs.Basin.{is_on_link, is_senior, is_at, instream_link}
use Rattle.water_model.specs.Cuts.{kept_on}
use Rattle.water_model.specs.declared.types.Basin.{Basin}
use Rattle.rights_roll.specs.Rolls.{IsNextOn, link_in}
use Rattle.chains.specs.Chains.{has_key}

-- indices that don't pass may be left out
greatest_skips : (m n : ℕ) (p : ℕ → Bool) (f : ℕ → ℕ) → m ≤ n → ((k : ℕ) → m ≤ k → k < n → p k ≡ false) →
    greatest_where n p f ≡ greatest_where m p f
unfolding greatest_where
greatest_skips m zero p f h none = let e : 0 ≡ m = omega arith in ap (λ k. greatest_where k p f) e
greatest_skips m (suc n) p f h none = elim (at_or_below m n h) [
  | inl same ↦ ap (λ k. greatest_where k p f) (sym same)
  | inr below ↦
      rw (none n below (omega arith))
      (zero_max (greatest_where n p f) ∙ greatest_skips m n p f below (λ k a c. none k a (omega arith)))
]
  where
    at_or_below : (m n : ℕ) → m ≤ suc n → (m ≡ suc n) ⊎ (m ≤ n)
    at_or_below m n h = grind arith

    zero_max : (x : ℕ) → max x 0 ≡ x
    zero_max x = omega arith

-- whether a right is on the link and senior
abbrev holds : Basin → ℕ → ℕ → ℕ → Bool
holds b right link s = is_on_link b s link && is_senior b s right

-- how far the chain of a link has come, at the next right on it
pub record IsKeptSoFar (b : Basin) (delivered : List ℕ) (right link kept : ℕ) (next : Option ℕ) : Type 0 where
  pub start : ℕ
  pub within : start ≤ length b.rights
  pub at : IsNextOn b.rights link start next
  pub so_far : kept ≡ greatest_where start (holds b right link) (λ s. slice_index delivered s)

off_link : (b : Basin) (right link s : ℕ) → has_key (link_in b.rights) link s ≡ false → holds b right link s ≡ false
off_link b right link s off = ap (λ t. t && is_senior b s right) off

pub kept_start : (b : Basin) (delivered : List ℕ) (right link : ℕ) (next : Option ℕ) → IsNextOn b.rights link 0 next →
    IsKeptSoFar b delivered right link 0 next
unfolding greatest_where
kept_start b delivered right link next at = record { start = 0; within = omega arith; at = at; so_far = refl }

-- one right of the chain more
pub kept_more : (b : Basin) (delivered : List ℕ) (right link kept more holder : ℕ) (next : Option ℕ) →
    IsKeptSoFar b delivered right link kept (Some holder) →
    more ≡ (if is_senior b holder right then max kept (slice_index delivered holder) else kept) →
    IsNextOn b.rights link (holder + 1) next →
    IsKeptSoFar b delivered right link more next
unfolding greatest_where
kept_more b delivered right link kept more holder next so is further = record {
  start = suc holder;
  within = omega (arith, so.at.1);
  at = subst_start further;
  so_far = is ∙ by_test (is_senior b holder right) refl;
}
  where
    subst_start : IsNextOn b.rights link (holder + 1) next → IsNextOn b.rights link (suc holder) next
    subst_start h = rw (← add-one) h

    on : is_on_link b holder link ≡ true
    on = so.at.2

    before : greatest_where holder (holds b right link) (λ s. slice_index delivered s) ≡ kept
    before = greatest_skips so.start holder (holds b right link) (λ s. slice_index delivered s) so.at.0
        (λ k l u. off_link b right link k (so.at.3 k l u)) ∙ sym so.so_far

    by_test : (t : Bool) → is_senior b holder right ≡ t → (if t then max kept (slice_index delivered holder) else kept)
        ≡ max (greatest_where holder (holds b right link) (λ s. slice_index delivered s))
        (if holds b right link holder then slice_index delivered holder else 0)
    by_test true e = rw (before, on, e) refl
    by_test false e = rw (before, on, e) (omega arith)

-- all rights of the chain
pub kept_all : (b : Basin) (delivered : List ℕ) (right link kept : ℕ) → IsKeptSoFar b delivered right link kept None →
    kept ≡ kept_on b delivered right link
kept_all b delivered right link kept so =
    so.so_far
    ∙ sym (greatest_skips so.start (length b.rights) (holds b right link) (λ s. slice_index delivered s) so.within
    (λ k l u. off_link b right link k (so.at k l u)))
