-- A tight cut stays tight while only juniors change.
use Rattle.std.proofs.Common.{◌≡◌, ℕ, zero, suc, ◌<◌, Bool, true, false, refl, ap, ap₂, arith, length}
use Rattle.std.proofs.lemmas.Bool.{and_parts}
use Rattle.std.proofs.lemmas.Bool.Decides.{nat_tests}
use Rattle.std.specs.Prelude.{slice_index, ◌&&◌, not, if◌then◌else◌, max}
use Rattle.finite_sums.specs.Sums.{greatest_where}
use Rattle.finite_sums.proofs.Totals.{total_same}
use Rattle.duality.specs.Laws.{TightStays}
use Rattle.water_model.specs.Basin.{is_senior, is_on_link}
use Rattle.water_model.specs.Cuts.{leaves, takes_within, kept_on}

-- greatest values of the same numbers
pub greatest_same_terms : (n : ℕ) (p : ℕ → Bool) (f g : ℕ → ℕ) → ((k : ℕ) → k < n → p k ≡ true → f k ≡ g k) →
    greatest_where n p f ≡ greatest_where n p g
unfolding greatest_where
greatest_same_terms zero p f g h = refl
greatest_same_terms (suc n) p f g h =
    ap₂ max (greatest_same_terms n p f g (λ k l. h k (omega arith))) (term (p n) (h n (omega arith)))
  where
    term : (t : Bool) → (t ≡ true → f n ≡ g n) → (if t then f n else 0) ≡ (if t then g n else 0)
    term true e = e refl
    term false e = refl

pub tight_stays : TightStays
tight_stays b month supply d d' r cut l own seniors tight = record {
  is_cut = tight.is_cut;
  tight = omega (
    arith,
    tight.tight,
    own,
    total_same (length b.links) (λ e. if leaves b cut e && not (is_on_link b r e) then kept_on b d r e else 0)
        (λ e. if leaves b cut e && not (is_on_link b r e) then kept_on b d' r e else 0)
        (λ e k. ap (λ x. if leaves b cut e && not (is_on_link b r e) then x else 0)
        (greatest_same_terms (length b.rights) (λ s. is_on_link b s e && is_senior b s r) (λ s. slice_index d s)
        (λ s. slice_index d' s)
        (λ s m h. seniors s m (and_parts (is_on_link b s e) (is_senior b s r) h).1))),
    total_same (length b.rights) (λ s. if takes_within b cut s && is_senior b s r then slice_index d s else 0)
        (λ s. if takes_within b cut s && is_senior b s r then slice_index d' s else 0)
        (λ s m. term (takes_within b cut s) (is_senior b s r) (slice_index d s) (slice_index d' s) (seniors s m)),
  );
}
  where
    term : (p q : Bool) (x y : ℕ) → (q ≡ true → x ≡ y) → (if p && q then x else 0) ≡ (if p && q then y else 0)
    term p q x y h = grind (arith, nat_tests)
