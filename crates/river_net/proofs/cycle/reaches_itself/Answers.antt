use Rattle.std.proofs.Common.{arith, sym}
use Rattle.river_net.proofs.Searches.{search_ends, queue_fits}
use Rattle.river_net.proofs.cycle.reaches_itself.Goals as goal

pub loop-done-smaller : goal.loop-done-smaller
loop-done-smaller c =
    let fits = queue_fits c.loop-done.invariant.search in
    omega (arith, c.loop-done-test.true, c.len.ensures)

pub returns : goal.returns
returns c =
    sym (search_ends c.in_ok-search.ensures.within c.requires
    (omega (arith, c.loop-done-test.false, c.len.ensures)) c.loop-done.invariant)
