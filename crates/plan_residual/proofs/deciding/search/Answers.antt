use Rattle.std.proofs.Common.{subst, ap}
use Rattle.cut_cert.specs.Sets.{cut_at}
use Rattle.plan_residual.specs.Scene.{IsScene}
use Rattle.plan_residual.proofs.Decides.{reach_decided}
use Rattle.plan_residual.proofs.deciding.search.Goals as goal

pub returns-clause-reach : goal.returns-clause-reach
returns-clause-reach c =
    let given : IsScene c.args.scene.now = subst IsScene c.scene.view_is c.scene.invariant in
    let b = c.args.scene.now.basin in
    let m = c.args.scene.now.month in
    reach_decided b m c.args.right c.spread_own.new.queue.seen (cut_at m.cuts c.args.right) c.covers.result
    given.plan c.requires.cut.in_range c.requires.short c.requires.tight c.spread_own.ensures.reached
    (rw (← c.requires.cut.nodes, ← c.seen.ensures) (rw (ap (λ k. k.month) c.scene.view_is) at c.covers.ensures))
