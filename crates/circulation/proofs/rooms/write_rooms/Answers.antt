use Rattle.std.proofs.Common.{arith, refl}
use Rattle.circulation.proofs.RoomLists.{written_next, written_all}
use Rattle.circulation.proofs.rooms.write_rooms.Goals as goal

pub loop-arc-preserved : goal.loop-arc-preserved
loop-arc-preserved c =
    let within = c.requires.within c.loop-arc.arc c.loop-arc-test.true in
    written_next _ _ c.loop-arc.invariant
    (omega (arith, c.loop-arc-test.true, c.loop-arc.auto.rooms, c.requires.size)) (omega (arith, within)) refl

pub returns : goal.returns
returns c = written_all c.loop-arc.invariant c.loop-arc-test.false c.requires.flows
    (omega (arith, c.loop-arc.auto.rooms, c.requires.size))
