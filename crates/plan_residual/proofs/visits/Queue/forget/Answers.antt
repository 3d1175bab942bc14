use Rattle.std.proofs.Common.{◌≡◌, ◌-◌, ℕ, ◌∙◌, arith, false}
use Rattle.std.proofs.lemmas.List.{get_or_default, length-set}
use Rattle.std.specs.Prelude.{slice_index}
use Rattle.water_model.proofs.Sets.{has_below}
use Rattle.plan_residual.proofs.Queues.{forget_last, queue_fits}
use Rattle.plan_residual.proofs.visits.Queue.forget.Goals as goal

pub index-requires : goal.index-requires
index-requires c =
    let now = c.loop-position.invariant.queue in
    omega (arith, now.sized, c.loop-position-test.true, queue_fits _ now)

pub index_mut-requires : goal.index_mut-requires
index_mut-requires c =
    let now = c.loop-position.invariant.queue in
    let inside = c.loop-position.self-inside in
    let position : ℕ = c.loop-position.position - 1 in
    let is : c.index.result.now ≡ slice_index inside.nodes.items position = c.index.ensures
    ∙ get_or_default inside.nodes.items position c.index.result.now 0
    (omega (arith, now.sized, c.loop-position-test.true, queue_fits _ now)) in
    let below = has_below inside.seen.items (slice_index inside.nodes.items position)
    (now.queued position (omega arith)) in
    omega (arith, below, is)

pub loop-position-preserved : goal.loop-position-preserved
loop-position-preserved c =
    let now = c.loop-position.invariant.queue in
    let inside = c.loop-position.self-inside in
    let position : ℕ = c.loop-position.position - 1 in
    let is : c.index.result.now ≡ slice_index inside.nodes.items position = c.index.ensures
    ∙ get_or_default inside.nodes.items position c.index.result.now 0
    (omega (arith, now.sized, c.loop-position-test.true, queue_fits _ now)) in
    record {
      queue = rw is (forget_last _ position now (omega arith));
      above = omega arith;
      count = length-set inside.seen.items c.index.result.now false ∙ c.loop-position.invariant.count;
      nodes = c.loop-position.invariant.nodes;
    }
