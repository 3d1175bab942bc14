use Rattle.std.proofs.Common.{arith}
use Rattle.plan_residual.proofs.Queues.{queue_fits}
use Rattle.plan_residual.proofs.Spreading.{grown_none, grown_then, closed_at_end}
use Rattle.plan_residual.proofs.spread.spread_on.Goals as goal

pub overflow_add-done : goal.overflow_add-done
overflow_add-done c =
    let now = c.loop-done.invariant.grown.in_queue in
    omega (arith, c.loop-done-test.true, c.len.ensures, now.bounded, queue_fits c.loop-done.queue now)

pub loop-done-init : goal.loop-done-init
loop-done-init c = record {
  grown = grown_none _ _ _ _ c.args.queue.now c.requires.queue.in_queue;
  followed = c.requires.followed;
}

pub loop-done-preserved : goal.loop-done-preserved
loop-done-preserved c = record {
  grown = grown_then c.loop-done.invariant.grown c.expand.ensures.grown;
  followed = c.expand.ensures.followed;
}

pub loop-done-smaller : goal.loop-done-smaller
loop-done-smaller c =
    let now = c.loop-done.invariant.grown in
    omega (
      arith,
      c.loop-done-test.true,
      c.len.ensures,
      queue_fits c.loop-done.queue now.in_queue,
      now.count,
      c.requires.queue.count,
    )

pub returns-clause-closed : goal.returns-clause-closed
returns-clause-closed c =
    closed_at_end _ _ _ _ c.loop-done.queue c.loop-done.done c.loop-done.invariant.grown.in_queue
    c.loop-done.invariant.followed (omega (arith, c.loop-done-test.false, c.len.ensures))
