use Rattle.std.proofs.Common.{ℕ, ◌+◌, ◌*◌, ap, ◌∙◌}
use Rattle.basin_gen.specs.Draws.{next, later}
use Rattle.basin_gen.specs.Entries.{reservoir_at}
use Rattle.basin_gen.proofs.DrawLaws.{list_grows, later_two}
use Rattle.basin_gen.proofs.reservoirs.reservoirs.Goals as goal

pub loop-j-preserved : goal.loop-j-preserved
loop-j-preserved c =
    let j = c.loop-j.j in
    let x = c.args.draws.now.state in (
      list_grows j (λ k. reservoir_at (40 * k + 20) (later x (2 * k))) c.loop-j.reservoirs.items c.push.new.self.items
          c.in_ok-reservoir.reservoir c.in_ok-push.ensures.items
          (c.in_ok-reservoir.ensures.value ∙ ap (reservoir_at (40 * j + 20)) c.loop-j.invariant.1)
          c.loop-j.invariant.0,
      c.in_ok-reservoir.ensures.after ∙ (ap (λ (s : ℕ). next (next s)) c.loop-j.invariant.1 ∙ later_two x j),
    )
