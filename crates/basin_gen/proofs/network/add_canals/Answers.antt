use Rattle.std.proofs.Common.{ℕ, ◌+◌, ◌*◌, ap, ◌∙◌}
use Rattle.basin_gen.specs.Draws.{next, later}
use Rattle.basin_gen.specs.Entries.{canal_at}
use Rattle.basin_gen.proofs.DrawLaws.{list_appends, later_two}
use Rattle.basin_gen.proofs.network.add_canals.Goals as goal

pub loop-j-preserved : goal.loop-j-preserved
loop-j-preserved c =
    let j = c.loop-j.j in
    let x = c.args.draws.now.state in (
      list_appends c.args.links.now.items j (λ k. canal_at c.args.size (4 * k + 1) (later x (2 * k)))
          c.loop-j.links.items c.push.new.self.items c.canal.result c.in_ok-push.ensures.items
          (c.canal.ensures.value ∙ ap (canal_at c.args.size (4 * j + 1)) c.loop-j.invariant.1)
          c.loop-j.invariant.0,
      c.canal.ensures.after ∙ (ap (λ (s : ℕ). next (next s)) c.loop-j.invariant.1 ∙ later_two x j),
    )
