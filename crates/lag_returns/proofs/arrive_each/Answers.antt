use Rattle.std.proofs.Common.{◌∙◌, ◌<◌, length, get_or, ap, refl, arith}
use Rattle.finite_sums.proofs.Totals.{total_start}
use Rattle.water_model.specs.Lookups.{of_entry}
use Rattle.lag_returns.specs.ReturnFlows.{brought_to}
use Rattle.lag_returns.proofs.Indices.{one_row_little, one_row_more, room_at, row_at}
use Rattle.lag_returns.proofs.arrive_each.Goals as goal

pub loop-flow-init : goal.loop-flow-init
loop-flow-init c = record {
  indices = refl;
  added = λ n l. omega (arith, total_start (λ k. of_entry c.args.flows.now k (brought_to n) 0));
  small = λ n l. omega arith;
}

pub arrive-requires-clause-node : goal.arrive-requires-clause-node
arrive-requires-clause-node c =
    let n = row_at (λ row. row.node < length c.args.into.now) c.args.flows.now c.loop-flow.flow-index
    c.requires.nodes c.loop-flow-test.true c.flow-item.is in
    omega arith

pub arrive-requires-clause-room : goal.arrive-requires-clause-room
arrive-requires-clause-room c =
    room_at c.args.flows.now c.loop-flow.flow-index c.args.into.now c.loop-flow.into
    c.loop-flow-test.true c.flow-item.is node c.requires.room
    (c.loop-flow.invariant.added c.flow-item.result.row.node (omega (arith, node, c.loop-flow.invariant.indices)))
    (c.loop-flow.invariant.small c.flow-item.result.row.node (omega (arith, node, c.loop-flow.invariant.indices)))
  where
    node : c.flow-item.result.row.node < length c.args.into.now
    node = row_at (λ row. row.node < length c.args.into.now) c.args.flows.now c.loop-flow.flow-index c.requires.nodes
        c.loop-flow-test.true c.flow-item.is

pub loop-flow-preserved : goal.loop-flow-preserved
loop-flow-preserved c = record {
  indices = omega (arith, c.arrive.auto.into);
  added = λ n l. ap (λ xs. get_or xs n 0) c.arrive.ensures.adds
      ∙ one_row_more c.args.flows.now c.loop-flow.flow-index c.loop-flow.into n (get_or c.args.into.now n 0)
      c.loop-flow-test.true c.flow-item.is node (c.loop-flow.invariant.added n (omega (arith, c.arrive.auto.into)));
  small = λ n l. omega (
    arith,
    ap (λ xs. get_or xs n 0) c.arrive.ensures.adds,
    one_row_little c.flow-item.result c.loop-flow.into n node c.arrive.ensures.small,
    c.loop-flow.invariant.small n (omega (arith, c.arrive.auto.into)),
  );
}
  where
    node : c.flow-item.result.row.node < length c.loop-flow.into
    node =
        let n = row_at (λ row. row.node < length c.args.into.now) c.args.flows.now c.loop-flow.flow-index
        c.requires.nodes c.loop-flow-test.true c.flow-item.is in
        omega arith
