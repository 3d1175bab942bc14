use Rattle.std.proofs.Common.{◌+◌, ◌-◌, ◌<◌, arith}
use Rattle.residual_tree.proofs.Grows.{queue_short}
use Rattle.residual_tree.proofs.growing.spread.Goals as goal

pub loop-done-smaller : goal.loop-done-smaller
loop-done-smaller g c =
    let short = queue_short c.loop-done.invariant.tree in
    let less : c.args.circ.now.nodes - (c.loop-done.done + 1) < c.args.circ.now.nodes - c.loop-done.done = omega
    (arith, short, c.loop-done-test.true) in
    less
