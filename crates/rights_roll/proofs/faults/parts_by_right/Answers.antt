use Rattle.std.proofs.Common.{rules, arith}
use Rattle.std.proofs.lemmas.Grind.{common_steps}
use Rattle.water_model.specs.declared.types.ReturnRow.{ReturnRow}
use Rattle.rights_roll.proofs.Parts.{parts-start, parts-more}
use Rattle.rights_roll.proofs.faults.parts_by_right.Goals as goal

pub loop-row-init : goal.loop-row-init
loop-row-init c = parts-start (search rules)

pub loop-row-preserved : goal.loop-row-preserved
loop-row-preserved c =
    let row : ReturnRow = record { right = 0; node = 0; part = 0; lag = 0; rest = 0 } in
    parts-more c.args.returns.now c.loop-row.row-index row (omega arith)
    (c.requires c.loop-row.row-index row c.loop-row-test.true) (grind (arith, common_steps)) c.loop-row.invariant
