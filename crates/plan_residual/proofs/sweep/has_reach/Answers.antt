use Rattle.std.proofs.Common.{◌∙◌, sym, subst, ap}
use Rattle.cut_cert.specs.Sets.{cut_at}
use Rattle.plan_residual.specs.Scene.{IsScene}
use Rattle.plan_residual.proofs.Decides.{reach_decided}
use Rattle.plan_residual.proofs.Firsts.{set_tight}
use Rattle.plan_residual.proofs.Queues.{same_queue}
use Rattle.plan_residual.proofs.Reaching.{apart_same}
use Rattle.plan_residual.proofs.sweep.has_reach.Goals as goal

pub returns-clause-reach : goal.returns-clause-reach
returns-clause-reach c =
    let given : IsScene c.args.scene.now = subst IsScene c.scene.view_is c.scene.invariant in
    let b = c.args.scene.now.basin in
    let m = c.args.scene.now.month in
    reach_decided b m c.args.right c.spread_own.new.queue.seen (cut_at m.cuts c.args.right) c.covers-whole.result
    given.plan c.requires.right.in_range c.requires.right.short
    (set_tight b m c.args.right c.requires.sets c.requires.right.in_range c.requires.right.short)
    c.spread_own.ensures.reached
    (rw (← given.plan.fits.cut_nodes, ← c.seen.ensures)
    (rw (ap (λ k. k.month) c.scene.view_is) at c.covers-whole.ensures))

pub returns-clause-reached : goal.returns-clause-reached
returns-clause-reached c =
    let size = c.forget.ensures.size ∙ c.len-known.ensures in
    apart_same c.args.scene.now.basin c.args.scene.now.month c.args.right c.args.queue.now.seen
    c.forget.new.self.seen
    (c.forget.ensures.count ∙ (c.spread_own.ensures.queue.count ∙ sym c.requires.queue.count))
    (same_queue c.requires.queue.in_queue c.forget.ensures.queue (sym size)
    (λ j l. rw c.forget.ensures.nodes (c.spread_own.ensures.extends.prefix j l)))
    (same_queue c.forget.ensures.queue c.requires.queue.in_queue size
    (λ j l. rw c.forget.ensures.nodes (sym (c.spread_own.ensures.extends.prefix j (rw (← size) l)))))
    c.requires.reached
