use Rattle.std.proofs.Common.{ℕ, ◌*◌, arith, ap}
use Rattle.circulation.specs.Contents.{Contents}
use Rattle.augment.proofs.Traces.{tracing_start, tracing_back, tracing_next, tracing_end}
use Rattle.augment.proofs.tracing.trace.Goals as goal

pub loop-node-init : goal.loop-node-init
loop-node-init c = record {
  tracing = tracing_start c.args.circ.now c.requires.kept c.requires.arc c.requires.positive c.requires.tree.1
      c.requires.reached (omega (arith, c.nodes-nodes.ensures.number)) c.ends-ends.ensures.from;
  kept = c.requires.kept;
}

pub room-requires-clause-arc : goal.room-requires-clause-arc
room-requires-clause-arc c =
    let x = c.loop-node.invariant.tracing in
    let back = tracing_back c.args.circ.now c.loop-node.circ c.requires.kept x c.loop-node-test.true
    c.ends-ends.ensures.to c.nodes-nodes.ensures.number c.position-place.ensures c.word-step.ensures
    c.requires.tree.1 in
    rw (c.set_word.ensures.written, x.rest) back.arc

pub start-node-requires-clause-arc : goal.start-node-requires-clause-arc
start-node-requires-clause-arc c =
    let x = c.loop-node.invariant.tracing in
    let back = tracing_back c.args.circ.now c.loop-node.circ c.requires.kept x c.loop-node-test.true
    c.ends-ends.ensures.to c.nodes-nodes.ensures.number c.position-place.ensures c.word-step.ensures
    c.requires.tree.1 in
    rw (c.set_word.ensures.written, x.rest) back.arc

pub loop-node-preserved : goal.loop-node-preserved
loop-node-preserved c =
    let x = c.loop-node.invariant.tracing in record {
      tracing = tracing_next c.args.circ.now c.loop-node.circ c.set_word.new.circ x c.requires.tree.1
          (λ least size. tracing_back c.args.circ.now c.loop-node.circ c.requires.kept x c.loop-node-test.true
          c.ends-ends.ensures.to c.nodes-nodes.ensures.number c.position-place.ensures c.word-step.ensures)
          c.set_word.ensures.written c.room.ensures c.min-amount.ensures c.start-node.ensures;
      kept = c.set_word.ensures.kept;
    }

pub returns-clause-walk : goal.returns-clause-walk
returns-clause-walk c = tracing_end c.args.circ.now c.loop-node.circ c.requires.kept c.requires.arc
    c.loop-node.invariant.tracing c.loop-node-test.false c.ends-ends.ensures.to c.requires.most
    (ap (λ (a : ℕ). 2 * a) c.from.ensures) (ap (λ (x : Contents). x.scratch) c.set_word-2.ensures.written)
