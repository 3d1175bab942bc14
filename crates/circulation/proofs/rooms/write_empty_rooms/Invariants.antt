use Rattle.std.proofs.Common.{length, replicate}
use Rattle.circulation.proofs.RoomLists.{AreWritten}
use Rattle.circulation.proofs.rooms.write_empty_rooms.Given as goal

abbrev pub invariant-loop-arc : goal.invariant-loop-arc
invariant-loop-arc l = AreWritten l.upper (replicate (length l.upper) 0) l.rooms l.arc
