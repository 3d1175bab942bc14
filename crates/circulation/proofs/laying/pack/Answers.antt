use Rattle.std.proofs.Common.{arith}
use Rattle.circulation.proofs.Pairs.{packed_next, packed_tails, packed_heads}
use Rattle.circulation.proofs.laying.pack.Goals as goal

pub loop-arc-preserved : goal.loop-arc-preserved
loop-arc-preserved c = packed_next c.loop-arc.invariant
    (omega (arith, c.loop-arc-test.true, c.loop-arc.auto.pairs, c.requires))
    (omega (arith, c.loop-arc-test.element_fits2.fits, c.from-in-loop-arc.ensures)) c.from.ensures
    c.from-in-loop-arc.ensures

pub returns-clause-from : goal.returns-clause-from
returns-clause-from c = packed_tails c.loop-arc.invariant
    (omega (arith, c.loop-arc.auto.pairs, c.requires)) c.loop-arc-test.false

pub returns-clause-to : goal.returns-clause-to
returns-clause-to c = packed_heads c.loop-arc.invariant
    (omega (arith, c.loop-arc.auto.pairs, c.requires)) c.loop-arc-test.false
