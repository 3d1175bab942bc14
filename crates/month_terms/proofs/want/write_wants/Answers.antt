use Rattle.std.proofs.Common.{◌-◌, ◌∙◌, ap, arith, length, false}
use Rattle.std.specs.Prelude.{slice_index}
use Rattle.water_text.specs.declared.month.Month.{Month}
use Rattle.water_model.specs.Hydrology.{want_of}
use Rattle.water_model.specs.Lookups.{of_entry}
use Rattle.month_terms.specs.Calendars.{wants_otherwise}
use Rattle.month_terms.proofs.Calendars.{key_more, key_within, none_passes, want_is}
use Rattle.month_terms.proofs.want.write_wants.Goals as goal

pub loop-other-init : goal.loop-other-init
loop-other-init c = λ r l none.
    ap (λ xs. slice_index xs r) (c.copy_from_slice.ensures.after ∙ c.as_slice.ensures)
    ∙ want_is c.args.basin.now c.args.series.now r c.args.index (c.month_at-month.result.month - 1)
    (slice_index c.args.used.now r) c.index.result.now
    (c.requires.calendar.months.each (c.month_at-month.result.month - 1) c.index.result.now c.index.ensures)
    (ap (λ (m : Month). m.month - 1) c.month_at-month.ensures.month) l
    (none_passes (λ q. of_entry c.args.basin.now.rights q wants_otherwise false) c.args.calendar.now.others
    (length c.args.basin.now.rights) r c.requires.calendar.others l none)

pub want_in_year-requires-clause-right : goal.want_in_year-requires-clause-right
want_in_year-requires-clause-right c =
    key_within (λ q. of_entry c.args.basin.now.rights q wants_otherwise false) c.args.calendar.now.others
    (length c.args.basin.now.rights) c.loop-other.other c.index-right.result.now
    c.requires.calendar.others c.index-right.ensures

pub bounds-used-right : goal.bounds-used-right
bounds-used-right c =
    let within =
    key_within (λ q. of_entry c.args.basin.now.rights q wants_otherwise false) c.args.calendar.now.others
    (length c.args.basin.now.rights) c.loop-other.other c.index-right.result.now
    c.requires.calendar.others c.index-right.ensures in
    omega (arith, within, c.requires.used)

pub bounds-want-right : goal.bounds-want-right
bounds-want-right c =
    let within =
    key_within (λ q. of_entry c.args.basin.now.rights q wants_otherwise false) c.args.calendar.now.others
    (length c.args.basin.now.rights) c.loop-other.other c.index-right.result.now
    c.requires.calendar.others c.index-right.ensures in
    omega (arith, within, c.loop-other.auto.want, c.copy_from_slice.ensures.len, c.requires.want)

pub loop-other-preserved : goal.loop-other-preserved
loop-other-preserved c =
    key_more c.args.calendar.now.others c.loop-other.want c.loop-other.other c.index-right.result.now _
    (length c.args.basin.now.rights)
    (λ q. want_of c.args.basin.now c.args.series.now q c.args.index (slice_index c.args.used.now q))
    c.index-right.ensures (bounds-want-right c) c.want_in_year.ensures c.loop-other.invariant
