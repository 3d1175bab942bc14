-- The order of seniority.
use Rattle.std.proofs.Common.{◌≡◌, ℕ, zero, suc, ◌<◌, Bool, true, false, refl, sym, ◌∙◌, ap, arith, List, [], ◌∷◌}
use Rattle.std.proofs.Common.{length, inl, inr}
use Rattle.std.proofs.lemmas.Bool.{cases_order, cases_Bool}
use Rattle.std.proofs.lemmas.Bool.Decides.{nat_tests}
use Rattle.std.specs.Prelude.{◌==◌, ◌&&◌, ◌||◌, nat_lt, ◌⊎◌, ◌≢◌}
use Rattle.water_model.specs.Lookups.{of_entry}
use Rattle.water_model.specs.Rights.{is_lower, priority, priority_in, is_senior_in, AreStrict}
use Rattle.water_model.specs.Basin.{is_senior, priority_of}
use Rattle.water_model.specs.declared.types.Basin.{Basin}
use Rattle.water_model.specs.declared.types.Right.{Right}

-- no right is senior to itself
pub not_lower : (xs : List ℕ) → is_lower xs xs ≡ false
not_lower [] = refl
not_lower (x ∷ xs) = let h = not_lower xs in grind (arith, nat_tests)

pub not_senior_to_itself : (b : Basin) (r : ℕ) → is_senior b r r ≡ false
not_senior_to_itself b r = not_lower (priority_of b r)

pub lower_trans : (xs ys zs : List ℕ) → is_lower xs ys ≡ true → is_lower ys zs ≡ true → is_lower xs zs ≡ true
lower_trans [] ys zs h i = h
lower_trans (x ∷ xs) [] zs h i = cc
lower_trans (x ∷ xs) (y ∷ ys) [] h i = cc
lower_trans (x ∷ xs) (y ∷ ys) (z ∷ zs) h i =
    step x y z (is_lower xs ys) (is_lower ys zs) (is_lower xs zs) (lower_trans xs ys zs) h i
  where
    step : (x y z : ℕ) (p q t : Bool) → (p ≡ true → q ≡ true → t ≡ true) →
        nat_lt x y || (x == y && p) ≡ true → nat_lt y z || (y == z && q) ≡ true → nat_lt x z || (x == z && t) ≡ true
    step x y z p q t f h i = grind (arith, nat_tests)

pub senior_trans : (rights : List Right) (r s t : ℕ) → is_senior_in rights r s ≡ true → is_senior_in rights s t ≡ true →
    is_senior_in rights r t ≡ true
senior_trans rights r s t h i = lower_trans (priority_in rights r) (priority_in rights s) (priority_in rights t) h i

-- a right at which a test holds, and at none of its seniors
pub record IsFirst (b : Basin) (d : ℕ → Bool) (n k : ℕ) : Type 0 where
  pub below : k < n
  pub holds : d k ≡ true
  pub none_senior : (s : ℕ) → s < n → is_senior b s k ≡ true → d s ≡ false

pub first_where : (b : Basin) (d : ℕ → Bool) (n : ℕ) →
    ((k : ℕ) → k < n → d k ≡ false) ⊎ ((k : ℕ) × IsFirst b d n k)
first_where b d zero = inl (λ k l. absurd (omega arith))
first_where b d (suc n) = more (first_where b d n) (d n) refl
  where
    at_or_below : (s n : ℕ) → s < suc n → (s ≡ n) ⊎ (s < n)
    at_or_below s n l = grind arith

    here : ((s : ℕ) → s < n → is_senior b s n ≡ true → d s ≡ false) → d n ≡ true → IsFirst b d (suc n) n
    here h i = record {
      below = omega arith;
      holds = i;
      none_senior = λ s l t. elim (at_or_below s n l) [ inl e ↦ absurd (clash s e t) | inr c ↦ h s c t ];
    }
      where
        clash : (s : ℕ) → s ≡ n → is_senior b s n ≡ true → ⊥
        clash s e t = cc (not_senior_to_itself b n, ap (λ k. is_senior b k n) e, t)

    keep : (k : ℕ) → IsFirst b d n k → (is_senior b n k ≡ true → d n ≡ false) → IsFirst b d (suc n) k
    keep k f i = record {
      below = let l = f.below in omega arith;
      holds = f.holds;
      none_senior = λ s l t. elim (at_or_below s n l) [
        | inl e ↦ ap d e ∙ i (ap (λ j. is_senior b j k) (sym e) ∙ t)
        | inr c ↦ f.none_senior s c t
      ];
    }

    more : ((k : ℕ) → k < n → d k ≡ false) ⊎ ((k : ℕ) × IsFirst b d n k) → (t : Bool) → d n ≡ t →
        ((k : ℕ) → k < suc n → d k ≡ false) ⊎ ((k : ℕ) × IsFirst b d (suc n) k)
    more (inl h) true i = inr (n, here (λ s c t. h s c) i)
    more (inl h) false i = inl (λ k l. elim (at_or_below k n l) [ inl e ↦ ap d e ∙ i | inr c ↦ h k c ])
    more (inr f) true i = elim (cases_Bool (is_senior b n f.0)) [
      | inl e ↦ inr (n, here (λ s c t. f.1.none_senior s c (senior_trans b.rights s n f.0 t e)) i)
      | inr e ↦ inr (f.0, keep f.0 f.1 (λ t. absurd (cc (t, e))))
    ]
    more (inr f) false i = inr (f.0, keep f.0 f.1 (λ t. i))

-- of two different lists of one length one is lower
pub lower_total : (xs ys : List ℕ) → length xs ≡ length ys → xs ≢ ys → (is_lower xs ys ≡ true) ⊎ (is_lower ys xs ≡ true)
lower_total [] [] e n = absurd (n refl)
lower_total [] (y ∷ ys) e n = absurd (omega arith)
lower_total (x ∷ xs) [] e n = absurd (omega arith)
lower_total (x ∷ xs) (y ∷ ys) e n = elim (cases_order x y) [
  | inl same ↦ elim (lower_total xs ys (omega arith) (λ t. n (cc (same, t))))
      [ inl h ↦ inl (grind (arith, nat_tests)) | inr h ↦ inr (grind (arith, nat_tests)) ]
  | inr o ↦ elim o [ inl l ↦ inl (grind (arith, nat_tests)) | inr l ↦ inr (grind (arith, nat_tests)) ]
]

-- of two different rights one is senior to the other
pub senior_total : (rights : List Right) → AreStrict rights → (r s : ℕ) → r < length rights → s < length rights →
    r ≢ s →
    (is_senior_in rights r s ≡ true) ⊎ (is_senior_in rights s r ≡ true)
senior_total rights strict r s l k n = lower_total (priority_in rights r) (priority_in rights s) lengths differ
  where
    four : (xs : List Right) (r : ℕ) → r < length xs → length (of_entry xs r priority []) ≡ 4
    four [] r l = absurd (omega arith)
    four (x ∷ xs) zero l = refl
    four (x ∷ xs) (suc r) l = four xs r (omega arith)

    lengths : length (priority_in rights r) ≡ length (priority_in rights s)
    lengths = four rights r l ∙ sym (four rights s k)

    differ : priority_in rights r ≢ priority_in rights s
    differ e = elim (cases_order r s) [
      | inl same ↦ n same
      | inr o ↦ elim o [
        | inl below ↦ strict r s below k e
        | inr above ↦ strict s r above l (sym e)
      ]
    ]
