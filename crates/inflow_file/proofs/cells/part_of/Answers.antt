use Rattle.inflow_file.proofs.Words.{◌∙◌, ◌+◌, ap, arith, length, length_push, cell_in}
use Rattle.inflow_file.proofs.DueLaws.{small_table}
use Rattle.inflow_file.proofs.GapLaws.{cell_below, part_more}
use Rattle.inflow_file.proofs.cells.part_of.Goals as goal

pub cell_in-requires-clause-within : goal.cell_in-requires-clause-within
cell_in-requires-clause-within c =
    let below = cell_below _ _ _ _ _ c.requires.columns c.loop-cell-test.true in
    rw c.count-width.ensures (omega (arith, below, c.requires.cells))

pub cell_in-requires-clause-small : goal.cell_in-requires-clause-small
cell_in-requires-clause-small c =
    omega (arith, c.requires.cells, small_table _ c.requires.basin.run.months.1 c.requires.basin.bounded)

pub loop-cell-preserved : goal.loop-cell-preserved
loop-cell-preserved c =
    let pushed = c.in_ok-push.ensures.items in
    record {
      count = ap length pushed
          ∙ (length_push c.loop-cell.part.items c.cell_in.result ∙ ap (λ n. n + 1) c.loop-cell.invariant.count);
      each = λ k l. rw pushed (part_more (cell_in c.args.cells.now c.count-width.result c.args.from c.args.count)
          _ _ _ _ c.loop-cell.invariant.count c.loop-cell.invariant.each c.cell_in.ensures l);
    }
