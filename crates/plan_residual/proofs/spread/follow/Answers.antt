use Rattle.std.proofs.Common.{◌∙◌, sym, ap}
use Rattle.plan_residual.proofs.Spreading.{grown_by_step, grown_none}
use Rattle.plan_residual.proofs.spread.follow.Goals as goal

pub returns-then-can_follow-clause-grown : goal.returns-then-can_follow-clause-grown
returns-then-can_follow-clause-grown c =
    grown_by_step c.args.step
    (rw (c.end_of.ensures.value, ap (λ k. k.basin) c.scene.view_is) at c.visit.ensures)
    c.requires.step c.requires.start (sym c.can_follow.ensures ∙ c.if-can_follow.true)

pub returns-else-can_follow-clause-grown : goal.returns-else-can_follow-clause-grown
returns-else-can_follow-clause-grown c = grown_none _ _ _ _ c.args.queue.now c.requires.queue.in_queue
