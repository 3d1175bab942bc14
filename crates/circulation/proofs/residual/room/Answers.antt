use Rattle.circulation.specs.Residual.{arc_of}
use Rattle.circulation.proofs.Lent.{lent, arc_inside}
use Rattle.circulation.proofs.RoomLists.{room_is}
use Rattle.circulation.proofs.residual.room.Goals as goal

pub returns : goal.returns
returns c =
    let rooms = lent c.circ.invariant c.circ.view_is in
    room_is c.args.circ.now c.args.step rooms.are (arc_inside (arc_of c.args.step) rooms c.requires.arc)
