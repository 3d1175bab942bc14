use Rattle.std.proofs.Common.{◌∙◌, sym, ap, arith}
use Rattle.std.specs.Prelude.{min, slice_index}
use Rattle.std.proofs.lemmas.Option.{get_or_from_slice_get, slice_get_within}
use Rattle.month_terms.proofs.Calendars.{instream_within, place_more}
use Rattle.month_terms.proofs.want.write_deliveries.Goals as goal

pub bounds-want-right : goal.bounds-want-right
bounds-want-right c =
    let on = c.requires.calendar.instream.each c.loop-place.place c.index.result.now c.index.ensures in
    let entry = c.index.result.now in
    let within = instream_within c.args.basin.now entry.right entry.link c.requires.basin on in
    omega (arith, within.0, c.requires.want)

pub index-requires-in-loop-place : goal.index-requires-in-loop-place
index-requires-in-loop-place c =
    let on = c.requires.calendar.instream.each c.loop-place.place c.index.result.now c.index.ensures in
    let entry = c.index.result.now in
    let within = instream_within c.args.basin.now entry.right entry.link c.requires.basin on in
    omega (arith, within.1, c.requires.flow)

pub bounds-delivered-right : goal.bounds-delivered-right
bounds-delivered-right c =
    let on = c.requires.calendar.instream.each c.loop-place.place c.index.result.now c.index.ensures in
    let entry = c.index.result.now in
    let within = instream_within c.args.basin.now entry.right entry.link c.requires.basin on in
    omega (arith, within.0, c.loop-place.auto.delivered, c.copy_from_slice.ensures.len, c.requires.delivered)

pub loop-place-preserved : goal.loop-place-preserved
loop-place-preserved c =
    place_more c.args.basin.now c.args.want.now c.args.plan.now c.args.calendar.now.instream c.loop-place.delivered
    c.loop-place.place c.min.result c.index.result.now c.requires.calendar.instream c.index.ensures
    (bounds-delivered-right c)
    (c.min.ensures ∙ ap (λ x. min (slice_index c.args.want.now c.index.result.now.right) x)
    (sym (get_or_from_slice_get c.args.plan.now.flow c.index.result.now.link c.index-in-loop-place.result.now 0
    c.index-in-loop-place.ensures)))
    c.loop-place.invariant

pub returns-clause-each : goal.returns-clause-each
returns-clause-each c = λ r l. c.loop-place.invariant r l (λ k place low at same. absurd (omega (
  arith,
  slice_get_within c.args.calendar.now.instream k place at,
  c.loop-place-test.false,
  c.len-place-end.ensures,
)))
