use Rattle.std.proofs.Common.{sym, ap, ◌∙◌, Some}
use Rattle.std.proofs.lemmas.Option.{slice_get-get_or}
use Rattle.water_edge.proofs.Puts.{SoFar-next, SoFar-fails}
use Rattle.result_text.proofs.listing.put_parts.Goals as goal

pub returns-in_err-put_part-clause-text : goal.returns-in_err-put_part-clause-text
returns-in_err-put_part-clause-text g c =
    SoFar-fails _ (g.K.Sink.output c.put_part.new.sink) c.from_residual.result c.loop-part.invariant
    (slice_get-get_or c.args.parts.now c.loop-part.part-index _ c.loop-part-test.true
    ∙ ap (λ part. Some part) (sym c.part-item.is))
    c.in_err-put_part.ensures.text c.from_residual.ensures.0

pub loop-part-preserved : goal.loop-part-preserved
loop-part-preserved g c =
    SoFar-next _ c.loop-part.invariant
    (slice_get-get_or c.args.parts.now c.loop-part.part-index _ c.loop-part-test.true
    ∙ ap (λ part. Some part) (sym c.part-item.is))
    c.in_ok-put_part.ensures.text c.in_ok-put_part.ensures.cause.later

pub put_part-requires-clause-basin : goal.put_part-requires-clause-basin
put_part-requires-clause-basin g c = c.requires.basin

pub put_part-requires-clause-roll : goal.put_part-requires-clause-roll
put_part-requires-clause-roll g c = c.requires.roll
