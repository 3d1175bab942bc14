use Rattle.std.proofs.Common.{ap, sym, ◌∙◌}
use Rattle.basin_gen.specs.Draws.{next, later}
use Rattle.basin_gen.specs.Entries.{river_at}
use Rattle.basin_gen.proofs.DrawLaws.{list_grows, later_more}
use Rattle.basin_gen.proofs.network.rivers.Goals as goal

pub loop-i-preserved : goal.loop-i-preserved
loop-i-preserved c =
    let i = c.loop-i.i in
    let x = c.args.draws.now.state in (
      list_grows i (λ k. river_at c.args.size k (later x k)) c.loop-i.rivers.items c.push.new.self.items c.river.result
          c.in_ok-push.ensures.items
          (c.river.ensures.value ∙ ap (river_at c.args.size i) c.loop-i.invariant.1)
          c.loop-i.invariant.0,
      c.river.ensures.after ∙ (ap next c.loop-i.invariant.1 ∙ sym (later_more x i)),
    )
