use Rattle.std.proofs.Common.{arith}
use Rattle.river_net.proofs.Releases.{order_fits}
use Rattle.river_net.proofs.sorting.sort.Goals as goal

pub loop-done-smaller : goal.loop-done-smaller
loop-done-smaller c =
    let fits = order_fits c.loop-done.invariant.sorting.placing in
    omega (arith, c.loop-done-test.true, c.len.ensures)
