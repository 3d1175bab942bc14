use Rattle.std.proofs.Common.{rules, refl}
use Rattle.plan_residual.proofs.Queues.{queue_none}
use Rattle.plan_residual.proofs.visits.Queue.open.Goals as goal

pub returns : goal.returns
returns c = queue_none c.args.nodes _ (c.in_ok-seen.ensures.items_if_clones_equal (λ y e. e)) (search rules) refl
    c.requires
