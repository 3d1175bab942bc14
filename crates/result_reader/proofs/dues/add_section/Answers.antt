use Rattle.std.proofs.Common.{arith, ◌∙◌, sym, ap}
use Rattle.std.specs.Prelude.{slice_get}
use Rattle.water_model.specs.Entries.{in_order}
use Rattle.result_lines.specs.Text.{section_space}
use Rattle.water_model.proofs.Entries.{length-in_order}
use Rattle.result_reader.specs.Form.{shapes_at}
use Rattle.result_reader.proofs.Growing.{added-next, added-whole}
use Rattle.result_reader.proofs.dues.add_section.Goals as goal

pub loop-position-preserved : goal.loop-position-preserved
loop-position-preserved c =
    added-next (shapes_at c.args.section c.args.basin.now) (in_order (section_space c.args.section) c.args.basin.now)
    c.loop-position.position c.entry_at-entry.result _ _ _
    (ap (λ space. slice_get (in_order space c.args.basin.now) c.loop-position.position) (sym c.space-space.ensures)
    ∙ c.entry_at-entry.ensures.position)
    c.loop-position.invariant c.in_ok-add_entry.ensures

pub returns : goal.returns
returns c =
    grind (
      arith,
      added-whole,
      length-in_order,
      c.count_in-count.ensures,
      c.space-space.ensures,
      c.loop-position-test.false,
      c.loop-position.invariant,
    )
