use Rattle.std.proofs.Common.{arith, ◌≡◌, ◌∙◌, slice_index}
use Rattle.std.proofs.lemmas.List.{get_or_default}
use Rattle.water_model.proofs.Sets.{has_below}
use Rattle.plan_residual.proofs.Queues.{queue_fits}
use Rattle.plan_residual.proofs.visits.Queue.node.Goals as goal

pub index-requires : goal.index-requires
index-requires c =
    let now = rw (← c.self.view_is) at c.requires.queue in
    let below = rw (← c.self.view_is) at c.requires.index in
    omega (arith, below, now.sized, queue_fits _ now)

pub returns : goal.returns
returns c =
    let now = rw (← c.self.view_is) at c.requires.queue in
    let below = rw (← c.self.view_is) at c.requires.index in
    let is : c.index.result.now ≡ slice_index c.args.self.now.nodes c.args.index = rw (← c.self.view_is)
    (c.index.ensures ∙ get_or_default c.self.inside.nodes.items c.args.index c.index.result.now 0
    (omega (arith, below, now.sized, queue_fits _ now))) in
    record {
      value = is;
      within = rw is (has_below c.args.self.now.seen _ (c.requires.queue.queued c.args.index c.requires.index));
    }
