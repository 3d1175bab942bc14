use Rattle.std.proofs.Common.{arith, ◌∙◌, sym, false}
use Rattle.std.proofs.lemmas.List.{get_or_default}
use Rattle.plan_residual.proofs.Queues.{room_for, visit_new}
use Rattle.plan_residual.proofs.visits.Queue.visit.Goals as goal

pub index_mut-requires-2 : goal.index_mut-requires-2
index_mut-requires-2 c =
    let now = rw (← c.self.view_is) at c.requires.queue in
    let below = rw (← c.self.view_is) at c.requires.node in
    omega (
      arith,
      now.sized,
      room_for _ c.args.node now below (sym (c.index.ensures
          ∙ get_or_default c.self.inside.seen.items c.args.node c.index.result.now false below) ∙ c.if-index.false),
    )

pub overflow_add-self : goal.overflow_add-self
overflow_add-self c =
    let now = rw (← c.self.view_is) at c.requires.queue in
    let below = rw (← c.self.view_is) at c.requires.node in
    omega (
      arith,
      now.bounded,
      room_for _ c.args.node now below (sym (c.index.ensures
          ∙ get_or_default c.self.inside.seen.items c.args.node c.index.result.now false below) ∙ c.if-index.false),
    )

pub returns : goal.returns
returns c =
    let now = rw (← c.self.view_is) at c.requires.queue in
    let below = rw (← c.self.view_is) at c.requires.node in
    rw (← c.self.view_is) (visit_new _ c.args.node now below (sym (c.index.ensures
    ∙ get_or_default c.self.inside.seen.items c.args.node c.index.result.now false below) ∙ c.if-index.false))
