use Rattle.std.proofs.Common.{◌∙◌, length}
use Rattle.plan_residual.specs.Queue.{IsEmpty}
use Rattle.plan_residual.proofs.Backward.{found_upstream}
use Rattle.plan_residual.proofs.finding.find_upstream.Goals as goal

pub returns-clause-upstream : goal.returns-clause-upstream
returns-clause-upstream c =
    let empty : IsEmpty (length c.args.scene.now.basin.nodes) c.forget.new.self = record {
      in_queue = c.forget.ensures.queue;
      count = c.forget.ensures.count ∙ c.requires.queue.count;
      none = c.forget.ensures.size;
    } in
    found_upstream empty c.visit.ensures c.spread_on.ensures.grown c.spread_on.ensures.closed
