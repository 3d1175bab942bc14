use Rattle.std.specs.Prelude.{Some}
use Rattle.chains.proofs.Walking.{fewer_left}
use Rattle.plan_residual.proofs.Spreading.{IsSpreading, spreading_start, spreading_next}
use Rattle.plan_residual.proofs.spread.expand.Goals as goal

pub loop-at-init : goal.loop-at-init
loop-at-init c =
    spreading_start c.args.scene.now.basin c.args.scene.now.month c.args.right c.args.direction c.args.queue.now
    c.args.done c.first-at.result c.requires.queue.in_queue c.requires.followed
    (rw (← c.node.ensures.value) c.first-at.ensures)

pub loop-at-preserved : goal.loop-at-preserved
loop-at-preserved c =
    let now : IsSpreading c.args.scene.now.basin c.args.scene.now.month c.args.right c.args.direction c.args.queue.now
    c.loop-at.queue c.args.done (Some c.in-Some.step) = rw c.in-Some.is at c.loop-at.invariant in
    spreading_next c.next-at.result c.requires.within now c.follow.ensures.grown c.follow.ensures.followed
    c.next-at.ensures

pub loop-at-smaller : goal.loop-at-smaller
loop-at-smaller c =
    let now : IsSpreading c.args.scene.now.basin c.args.scene.now.month c.args.right c.args.direction c.args.queue.now
    c.loop-at.queue c.args.done (Some c.in-Some.step) = rw c.in-Some.is at c.loop-at.invariant in
    rw c.in-Some.is (fewer_left _ _ c.in-Some.step _ now.leaves.0 c.next-at.ensures)
