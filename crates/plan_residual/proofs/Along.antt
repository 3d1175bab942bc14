-- Sets that are closed, by links, are sets from which no search goes on.
use Rattle.std.proofs.Common.{◌≡◌, ℕ, ◌+◌, ◌*◌, Bool, true, false, refl, sym, ◌∙◌, ap, arith, List, inl, inr}
use Rattle.std.proofs.lemmas.Bool.{cases_Bool}
use Rattle.std.specs.Prelude.{not, if◌then◌else◌}
use Rattle.water_model.specs.Lookups.{has}
use Rattle.water_model.specs.declared.types.Basin.{Basin}
use Rattle.water_model.specs.declared.types.MonthRecord.{MonthRecord}
use Rattle.plan_residual.specs.declared.steps.Direction.TheVariants.{ToRight}
use Rattle.plan_residual.specs.Residual.{link_of, is_back, has_room, can_rise, can_fall, opposite, IsClosed}
use Rattle.plan_residual.specs.Core.{IsClosedBackward}
use Rattle.plan_residual.specs.Search.{HasOwn, IsClosedAlong, IsClosedApart}
use Rattle.plan_residual.proofs.Overs.{over, over_forward, over_backward, over_opposite, opposite_back, opposite_on}
use Rattle.plan_residual.proofs.Overs.{link_below}

pub apart_from_closed : (b : Basin) (m : MonthRecord) (r : ℕ) (set : List Bool) → IsClosed b m r set →
    IsClosedApart b m r set
apart_from_closed b m r set closed = record {
  outlets = closed.outlets;
  juniors = closed.juniors;
  along = record {
    steps = λ s l from room. elim (cases_Bool (is_back s)) [
      | inl back ↦ (let o = over b m r s (link_of s) true refl back in
          ap (has set) o.enters ∙ closed.backward (link_of s) (link_below b s l) (sym o.room ∙ room)
          (ap (has set) (sym o.starts) ∙ from))
      | inr on ↦ (let o = over b m r s (link_of s) false refl on in
          ap (has set) o.enters ∙ closed.forward (link_of s) (link_below b s l) (sym o.room ∙ room)
          (ap (has set) (sym o.starts) ∙ from))
    ];
  };
}

pub closed_from_apart : (b : Basin) (m : MonthRecord) (r : ℕ) (set : List Bool) → IsClosedApart b m r set →
    HasOwn b r set → IsClosed b m r set
closed_from_apart b m r set apart own = record {
  outlets = apart.outlets;
  juniors = apart.juniors;
  own = own;
  forward = λ e l room from. (let o = over_forward b m r e in
      sym (ap (has set) o.enters)
      ∙ apart.along.steps (2 * e) (omega arith) (ap (has set) o.starts ∙ from) (o.room ∙ room));
  backward = λ e l room from. (let o = over_backward b m r e in
      sym (ap (has set) o.enters)
      ∙ apart.along.steps (2 * e + 1) (omega arith) (ap (has set) o.starts ∙ from) (o.room ∙ room));
}

pub along_from_backward : (b : Basin) (m : MonthRecord) (r : ℕ) (set : List Bool) → IsClosedBackward b m r set →
    IsClosedAlong b m r ToRight set
along_from_backward b m r set closed = record {
  steps = λ s l from room. elim (cases_Bool (is_back s)) [
    | inl back ↦ (let o = over b m r s (link_of s) true refl back in
        ap (has set) o.enters ∙ closed.forward (link_of s) (link_below b s l)
        (sym (other s true back) ∙ room) (ap (has set) (sym o.starts) ∙ from))
    | inr on ↦ (let o = over b m r s (link_of s) false refl on in
        ap (has set) o.enters ∙ closed.backward (link_of s) (link_below b s l)
        (sym (other s false on) ∙ room) (ap (has set) (sym o.starts) ∙ from))
  ];
}
  where
    other : (s : ℕ) (back : Bool) → is_back s ≡ back → has_room b m r (opposite s)
        ≡ (if not back then can_fall b m r (link_of s) else can_rise b m (link_of s))
    other s back is = (over_opposite b m r s).room
        ∙ ap (λ t. if not t then can_fall b m r (link_of s) else can_rise b m (link_of s)) is

pub backward_from_along : (b : Basin) (m : MonthRecord) (r : ℕ) (set : List Bool) → IsClosedAlong b m r ToRight set →
    IsClosedBackward b m r set
backward_from_along b m r set along = record {
  forward = λ e l room to. (let o = over_backward b m r e in
      sym (ap (has set) o.enters)
      ∙ along.steps (2 * e + 1) (omega arith) (ap (has set) o.starts ∙ to)
      (ap (has_room b m r) (opposite_back e) ∙ ((over_forward b m r e).room ∙ room)));
  backward = λ e l room to. (let o = over_forward b m r e in
      sym (ap (has set) o.enters)
      ∙ along.steps (2 * e) (omega arith) (ap (has set) o.starts ∙ to)
      (ap (has_room b m r) (opposite_on e) ∙ ((over_backward b m r e).room ∙ room)));
}
