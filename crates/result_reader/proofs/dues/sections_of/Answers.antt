use Rattle.std.proofs.Common.{arith, []}
use Rattle.std.proofs.lemmas.Option.{slice_get-get_or}
use Rattle.result_lines.specs.declared.item.TheConstants.{SECTIONS}
use Rattle.result_reader.specs.Form.{shapes_in}
use Rattle.result_reader.proofs.Growing.{added-next, added-whole}
use Rattle.result_reader.proofs.dues.sections_of.Goals as goal

pub loop-section-preserved : goal.loop-section-preserved
loop-section-preserved c =
    added-next (λ section. shapes_in section c.args.basin.now) SECTIONS c.loop-section.section-index _ [] _ _
    (slice_get-get_or SECTIONS c.loop-section.section-index _ c.loop-section-test.true)
    c.loop-section.invariant c.in_ok-add_section.ensures

pub returns : goal.returns
returns c = grind (arith, added-whole, c.loop-section-test.false, c.loop-section.invariant)
