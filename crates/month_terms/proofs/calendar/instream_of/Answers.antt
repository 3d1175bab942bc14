use Rattle.std.proofs.Common.{◌∙◌, ap}
use Rattle.std.specs.Prelude.{None, option_map, unwrap_or}
use Rattle.water_model.specs.Basin.{link_of_kind}
use Rattle.month_terms.proofs.Calendars.{listed_more, no_link, whole_more, whole_still}
use Rattle.month_terms.proofs.calendar.instream_of.Goals as goal
use Rattle.month_terms.proofs.calendar.instream_of.Goals.{in-Instream+in_ok-push, in_default}

pub loop-right-preserved : goal.loop-right-preserved
loop-right-preserved c =
    let here = ap (λ o. unwrap_or (option_map (λ r. link_of_kind r.kind) o) None) c.index.ensures in
    elim c.match-index.branch [
      | in-Instream+in_ok-push w ↦ (
          let more = ap (λ v. v.items) w.places-is ∙ w.in_ok-push.ensures.items in
          record {
            each = listed_more c.args.basin.now c.loop-right.places.items _ _ more
                (here ∙ ap link_of_kind w.in-Instream.is) c.loop-right.invariant.each;
            whole = whole_more c.args.basin.now c.loop-right.places.items _ _ more c.loop-right.invariant.whole;
          })
      | in_default w ↦ (
          let same = ap (λ v. v.items) w.places-is in
          record {
            each = rw same c.loop-right.invariant.each;
            whole = whole_still c.args.basin.now c.loop-right.places.items _ c.loop-right.right same
                (here ∙ no_link _ w.in_default.not-Instream) c.loop-right.invariant.whole;
          })
    ]
