use Rattle.std.proofs.Common.{ℕ, ap, ◌∙◌}
use Rattle.basin_gen.specs.Draws.{later}
use Rattle.basin_gen.specs.Entries.{node_at}
use Rattle.basin_gen.specs.Generator.{draws_of_node, draws_of_nodes}
use Rattle.basin_gen.proofs.DrawLaws.{list_grows, node_draws}
use Rattle.basin_gen.proofs.network.nodes.Goals as goal

pub loop-i-preserved : goal.loop-i-preserved
loop-i-preserved c =
    let i = c.loop-i.i in
    let x = c.args.draws.now.state in (
      list_grows i (λ k. node_at c.args.size k (later x (draws_of_nodes k))) c.loop-i.nodes.items c.push.new.self.items
          c.node.result c.in_ok-push.ensures.items
          (c.node.ensures.value ∙ ap (node_at c.args.size i) c.loop-i.invariant.1)
          c.loop-i.invariant.0,
      c.node.ensures.after
          ∙ (ap (λ (s : ℕ). later s (draws_of_node i)) c.loop-i.invariant.1 ∙ node_draws x i),
    )
