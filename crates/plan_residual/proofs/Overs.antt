-- The two steps over a link.
use Rattle.std.proofs.Common.{◌≡◌, ℕ, ◌+◌, ◌-◌, ◌*◌, ◌<◌, Bool, true, false, ◌∙◌, ap, arith, inl, inr, sym, length}
use Rattle.std.proofs.lemmas.Bool.{cases_Bool, eq-eqb, eqb-true, eqb-false, ne_eqb}
use Rattle.std.specs.Prelude.{if◌then◌else◌, not, ◌%◌}
use Rattle.water_model.specs.Basin.{tail_of, head_of}
use Rattle.water_model.specs.declared.types.Basin.{Basin}
use Rattle.water_model.specs.declared.types.MonthRecord.{MonthRecord}
use Rattle.plan_residual.specs.Residual.{link_of, is_back, start_of, end_of, opposite, can_rise, can_fall, has_room}
use Rattle.plan_residual.specs.Rows.{step_count}

-- what a step over a link, forward or backward, is
pub record IsOver (b : Basin) (m : MonthRecord) (r s e : ℕ) (back : Bool) : Type 0 where
  pub starts : start_of b s ≡ (if back then head_of b e else tail_of b e)
  pub enters : end_of b s ≡ (if back then tail_of b e else head_of b e)
  pub room : has_room b m r s ≡ (if back then can_fall b m r e else can_rise b m e)

pub over : (b : Basin) (m : MonthRecord) (r s e : ℕ) (back : Bool) → link_of s ≡ e → is_back s ≡ back →
    IsOver b m r s e back
over b m r s e back link way = record {
  starts = ap (λ t. if t then head_of b (link_of s) else tail_of b (link_of s)) way
      ∙ ap (λ x. if back then head_of b x else tail_of b x) link;
  enters = ap (λ t. if t then tail_of b (link_of s) else head_of b (link_of s)) way
      ∙ ap (λ x. if back then tail_of b x else head_of b x) link;
  room = ap (λ t. if t then can_fall b m r (link_of s) else can_rise b m (link_of s)) way
      ∙ ap (λ x. if back then can_fall b m r x else can_rise b m x) link;
}

pub over_forward : (b : Basin) (m : MonthRecord) (r e : ℕ) → IsOver b m r (2 * e) e false
over_forward b m r e = over b m r (2 * e) e false (omega arith) (ne_eqb ((2 * e) % 2) 1 (λ f. absurd (omega arith)))

pub over_backward : (b : Basin) (m : MonthRecord) (r e : ℕ) → IsOver b m r (2 * e + 1) e true
over_backward b m r e = over b m r (2 * e + 1) e true (omega arith) (eq-eqb ((2 * e + 1) % 2) 1 (omega arith))

pub opposite_back : (e : ℕ) → opposite (2 * e + 1) ≡ 2 * e
opposite_back e =
    ap (λ t. if t then 2 * e + 1 - 1 else 2 * e + 1 + 1) (eq-eqb ((2 * e + 1) % 2) 1 (omega arith)) ∙ less
  where
    less : 2 * e + 1 - 1 ≡ 2 * e
    less = omega arith

pub opposite_on : (e : ℕ) → opposite (2 * e) ≡ 2 * e + 1
opposite_on e = ap (λ t. if t then 2 * e - 1 else 2 * e + 1) (ne_eqb ((2 * e) % 2) 1 (λ f. absurd (omega arith)))

-- the link of a step is a link
pub link_below : (b : Basin) (s : ℕ) → s < step_count b → link_of s < length b.links
link_below b s l = omega arith

-- the opposite step goes over the same link the other way
pub over_opposite : (b : Basin) (m : MonthRecord) (r s : ℕ) →
    IsOver b m r (opposite s) (link_of s) (not (is_back s))
over_opposite b m r s = elim (cases_Bool (is_back s)) [
  | inl back ↦ (
      let odd = eqb-true (s % 2) 1 back in
      let t : opposite s ≡ s - 1 = ap (λ t. if t then s - 1 else s + 1) back in
      over b m r (opposite s) (link_of s) (not (is_back s)) (omega (arith, t, odd))
      (ne_eqb (opposite s % 2) 1 (λ f. absurd (omega (arith, t, odd, f))) ∙ sym (ap not back)))
  | inr on ↦ (
      let even = eqb-false (s % 2) 1 on in
      let t : opposite s ≡ s + 1 = ap (λ t. if t then s - 1 else s + 1) on in
      over b m r (opposite s) (link_of s) (not (is_back s)) (omega (arith, t, even))
      (eq-eqb (opposite s % 2) 1 (omega (arith, t, even)) ∙ sym (ap not on)))
]
