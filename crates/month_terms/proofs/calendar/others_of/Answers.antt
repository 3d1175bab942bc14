use Rattle.std.proofs.Common.{◌≡◌, ◌∙◌, sym, ap, true, false}
use Rattle.std.specs.Prelude.{option_map, unwrap_or}
use Rattle.water_model.specs.Indices.{numbers_from}
use Rattle.water_model.specs.Lookups.{of_entry}
use Rattle.month_terms.specs.Calendars.{wants_otherwise}
use Rattle.month_terms.proofs.Calendars.{one_passes, one_fails}
use Rattle.month_terms.proofs.calendar.others_of.Goals as goal
use Rattle.month_terms.proofs.calendar.others_of.Goals.{then-wants_otherwise+in_ok-push, else-wants_otherwise}

pub loop-right-init : goal.loop-right-init
unfolding numbers_from
loop-right-init c = c.new-others.ensures.items

pub loop-right-preserved : goal.loop-right-preserved
loop-right-preserved c = elim c.if-wants_otherwise.branch [
  | then-wants_otherwise+in_ok-push w ↦ (
      let here : of_entry c.args.basin.now.rights c.loop-right.right wants_otherwise false ≡ true =
      ap (λ o. unwrap_or (option_map wants_otherwise o) false) c.index.ensures
      ∙ (sym c.wants_otherwise.ensures ∙ w.if-wants_otherwise.true) in
      let more = one_passes (λ r. of_entry c.args.basin.now.rights r wants_otherwise false) c.loop-right.right here in
      let before = c.loop-right.invariant in
      let own = w.others-is in
      let pushed = w.in_ok-push.ensures in
      cc
      )
  | else-wants_otherwise w ↦ (
      let here : of_entry c.args.basin.now.rights c.loop-right.right wants_otherwise false ≡ false =
      ap (λ o. unwrap_or (option_map wants_otherwise o) false) c.index.ensures
      ∙ (sym c.wants_otherwise.ensures ∙ w.if-wants_otherwise.false) in
      ap (λ v. v.items) w.others-is ∙ (c.loop-right.invariant
      ∙ sym (one_fails (λ r. of_entry c.args.basin.now.rights r wants_otherwise false) c.loop-right.right here))
      )
]
