use Rattle.circulation.proofs.RoomLists.{AreWritten}
use Rattle.circulation.proofs.rooms.write_rooms.Given as goal

abbrev pub invariant-loop-arc : goal.invariant-loop-arc
invariant-loop-arc l = AreWritten l.upper l.flow l.rooms l.arc
