use Rattle.std.proofs.Common.{◌∙◌, ◌<◌, sym, arith, refl, length}
use Rattle.senior_hold.specs.Spilled.{spilled}
use Rattle.senior_hold.proofs.Laid.{laid_out}
use Rattle.senior_hold.proofs.SpilledArcs.{spilled_outlet, spilled_count}
use Rattle.senior_hold.proofs.Spilled.{spilled_ends}
use Rattle.senior_hold.proofs.arcs.add_spills.Goals as goal

pub loop-from-init : goal.loop-from-init
loop-from-init c = spilled_ends c.args.basin.now c.args.ends.now.items c.requires.takes

pub loop-from-preserved : goal.loop-from-preserved
loop-from-preserved c =
    let inside : c.loop-from.from < length c.args.basin.now.nodes =
    omega (arith, c.loop-from-test.true, c.len-outside.ensures) in
    laid_out (spilled c.args.basin.now) c.loop-from.ends.items _ c.loop-from.from c.loop-from.from c.len-outside.result
    (spilled_outlet c.args.basin.now c.loop-from.from inside) refl (c.len-outside.ensures
    ∙ sym (spilled_count c.args.basin.now)) c.in_ok-push.ensures.items c.loop-from.invariant

pub overflow_cast-outside : goal.overflow_cast-outside
overflow_cast-outside c = omega (arith, c.len-outside.ensures, c.requires.valid.bounded.nodes)
