use Rattle.std.proofs.Common.{sym, ap, ◌∙◌, arith, ◌+◌, ◌*◌}
use Rattle.basin_gen.specs.Draws.{next, later}
use Rattle.basin_gen.specs.Entries.{lower_zone_at, upper_zone_at}
use Rattle.basin_gen.proofs.DrawLaws.{draws, later_more, zone_even, zone_odd}
use Rattle.basin_gen.proofs.reservoirs.add_zones.Goals as goal

pub loop-j-preserved : goal.loop-j-preserved
loop-j-preserved c =
    let j = c.loop-j.j in
    let x = c.args.draws.now.state in
    let state = c.lower_zone.ensures.after ∙ ap next c.loop-j.invariant.1 ∙ sym (later_more x (2 * j)) in
    let lower = c.lower_zone.ensures.value ∙ ap (lower_zone_at j) c.loop-j.invariant.1
    ∙ zone_even j (later x (2 * j)) in
    let upper = c.upper_zone.ensures.value ∙ ap (upper_zone_at j) state ∙ zone_odd j (later x (2 * j + 1)) in
    grind (arith, draws)
