-- A sweep from the most junior right to the most senior.
use Rattle.std.proofs.Common.{◌≡◌, ℕ, ◌+◌, ◌<◌, Bool, true, false, not, refl, sym, ◌∙◌, ap, subst, arith}
use Rattle.std.proofs.Common.{List, length, inl, inr}
use Rattle.std.proofs.lemmas.Bool.{cases_eq, false≢true, ltb-true}
use Rattle.std.specs.Bool.{OnTrue, OnFalse}
use Rattle.std.specs.Prelude.{Option, Some, None, IsTrue, ◌↔◌, if◌then◌else◌}
use Rattle.water_model.specs.History.{IsShort}
use Rattle.water_model.specs.Indices.{seniors_first}
use Rattle.water_model.specs.declared.types.Basin.{Basin}
use Rattle.water_model.specs.declared.types.MonthRecord.{MonthRecord}
use Rattle.rights_roll.specs.SeniorityOrder.{IsSeniorityOrder}
use Rattle.plan_residual.specs.Reaches.{HasReach, IsFirstOther}
use Rattle.plan_residual.specs.Sweep.{IsAt, IsFirstFrom, IsShortRight, right_at}

-- what is known from an index on is known from a later one on
pub at_lower : (b : Basin) (m : MonthRecord) (seen : List Bool) (position : ℕ) (before : Option ℕ) →
    IsAt b m seen (position + 1) before → IsAt b m seen position before
at_lower b m seen position None now = now
at_lower b m seen position (Some before) now = (let l = now.0 in omega arith, now.1, now.2, now.3)

-- a right that was found short, at an index of the order
pub short_right : (b : Basin) (m : MonthRecord) (right at : ℕ) (found : Bool) → right ≡ at → right < length b.rights →
    OnTrue found (IsShort m right) → found ≡ true → IsShortRight b m at
short_right b m right at found same l tested is =
    subst (λ (r : ℕ). IsShortRight b m r) same (record { in_range = l; short = rw is at tested })

-- one that was found not short is not judged
pub not_short : (b : Basin) (m : MonthRecord) (right at : ℕ) (found : Bool) → right ≡ at →
    OnFalse found (IsShort m right → ⊥) → found ≡ false → IsShort m at → HasReach b m at
not_short b m right at found same tested is short =
    absurd ((rw is at tested) (subst (λ (r : ℕ). IsShort m r) (sym same) short))

-- a short right was judged by whether its set is its reach
pub judged_yes : (b : Basin) (m : MonthRecord) (right at : ℕ) (whole : Bool) → right ≡ at → IsShort m right →
    IsTrue whole ↔ HasReach b m right → OnTrue (not whole) (IsShort m at × (HasReach b m at → ⊥))
judged_yes b m right at true same short reach = tt
judged_yes b m right at false same short reach =
    subst (λ (r : ℕ). IsShort m r × (HasReach b m r → ⊥)) same (short, λ h. absurd (false≢true (reach.1 h)))

pub judged_no : (b : Basin) (m : MonthRecord) (right at : ℕ) (whole : Bool) → right ≡ at →
    IsTrue whole ↔ HasReach b m right → OnFalse (not whole) (IsShort m at → HasReach b m at)
judged_no b m right at true same reach = λ _. subst (λ (r : ℕ). HasReach b m r) same (reach.0 refl)
judged_no b m right at false same reach = tt

-- one more right was judged
pub judged_more : (b : Basin) (m : MonthRecord) (position right : ℕ) (other : Bool) (answer : Option ℕ) →
    position < length b.rights → right_at b position ≡ right →
    OnTrue other (IsShort m (right_at b position) × (HasReach b m (right_at b position) → ⊥)) →
    OnFalse other (IsShort m (right_at b position) → HasReach b m (right_at b position)) →
    IsFirstFrom b m (position + 1) answer → IsFirstFrom b m position (if other then Some right else answer)
judged_more b m position right true answer l at judged fine now = (
  position,
  omega arith,
  l,
  at,
  subst (λ (r : ℕ). IsShort m r) at judged.0,
  subst (λ (r : ℕ). HasReach b m r → ⊥) at judged.1,
  λ i a c. absurd (omega arith),
)
judged_more b m position right false None l at judged fine now = λ i a c. elim (cases_eq i position) [
  | inl same ↦ subst (λ k. IsShort m (right_at b k) → HasReach b m (right_at b k)) (sym same) fine
  | inr other ↦ now i (omega arith) c
]
judged_more b m position right false (Some r) l at judged fine now = (
  now.0,
  (let a = now.1 in omega arith),
  now.2,
  now.3,
  now.4,
  now.5,
  λ i a c. elim (cases_eq i position) [
    | inl same ↦ subst (λ k. IsShort m (right_at b k) → HasReach b m (right_at b k)) (sym same) fine
    | inr other ↦ now.6 i (omega arith) c
  ],
)

-- all rights were judged
pub judged_all : (b : Basin) (m : MonthRecord) (answer : Option ℕ) → IsSeniorityOrder b.rights (seniors_first b) →
    IsFirstFrom b m 0 answer → IsFirstOther b m answer
judged_all b m None o now = λ r l short.
    subst (λ s. IsShort m s → HasReach b m s) (o.each r l) (now (o.place r) (omega arith) (o.in_range r l)) short
judged_all b m (Some r) o now = (
  in_range,
  now.4,
  now.5,
  λ s l senior short.
      let before : o.place s < o.place r = ltb-true (o.place s) (o.place r)
      (sym (o.senior s r l in_range) ∙ senior) in
      let at : o.place r ≡ now.0 = ap o.place (sym now.3) ∙ o.placed now.0 now.2 in
      subst (λ q. IsShort m q → HasReach b m q) (o.each s l) (now.6 (o.place s) (omega arith) (omega arith)) short,
)
  where
    in_range : r < length b.rights
    in_range = subst (λ (q : ℕ). q < length b.rights) now.3 (o.below now.0 now.2)
