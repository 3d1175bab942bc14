use Rattle.std.proofs.Common.{◌+◌, arith, ◌∙◌}
use Rattle.std.proofs.lemmas.List.{length-map, length-set}
use Rattle.circulation.specs.Places.{tail_of}
use Rattle.circulation.proofs.RowLists.{rows_start, apart_start, rows_next, rows_end}
use Rattle.circulation.proofs.rows.write_rows.Goals as goal

pub loop-node-init : goal.loop-node-init
loop-node-init c = record {
  rows = rows_start _ _ c.args.first.now _ _ (omega (arith, c.requires.first));
  apart = apart_start _ _ _;
  small = c.requires.none;
  firsts = length-set c.args.first.now 0 0 ∙ c.requires.first;
}

pub loop-node-preserved : goal.loop-node-preserved
loop-node-preserved c =
    let row = c.write_row-place.ensures in
    let inv = c.loop-node.invariant in
    record {
      rows = rows_next (omega (arith, c.loop-node-test.true, inv.firsts))
          inv.rows (omega (arith, length-map c.args.pairs.now tail_of)) row.row row.same
          c.write_row-place.auto.step row.inside;
      apart = row.apart;
      small = row.small;
      firsts = length-set c.loop-node.first (c.loop-node.node + 1) c.write_row-place.result ∙ inv.firsts;
    }

pub returns-clause-rows : goal.returns-clause-rows
returns-clause-rows c = rows_end _
    (omega (arith, c.loop-node-test.false, c.loop-node.auto.node-end)) c.loop-node.invariant.firsts
    (omega (arith, c.loop-node.auto.ends, c.loop-node.auto.step, c.requires.ends)) c.loop-node.invariant.rows
