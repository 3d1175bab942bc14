use Rattle.plan_residual.proofs.Reaching.{reached_apart, outlets_grow}
use Rattle.std.proofs.Common.{length}
use Rattle.plan_residual.proofs.sources.spread_apart.Goals as goal

pub returns-clause-reached : goal.returns-clause-reached
returns-clause-reached c =
    reached_apart c.see_juniors.ensures.on.reaching
    (outlets_grow c.args.scene.now.month (length c.args.scene.now.basin.nodes) c.see_outlets.new.queue.seen
    c.see_juniors.new.queue.seen c.see_juniors.ensures.on.extends.kept c.see_outlets.ensures.outlets)
    c.see_juniors.ensures.juniors c.spread_on.ensures.grown c.spread_on.ensures.closed
