use Rattle.circulation.proofs.RoomLists.{xor_one, room_moved}
use Rattle.circulation.proofs.rooms.move_room.Goals as goal

pub returns : goal.returns
returns c =
    room_moved c.args.step _ c.args.amount (xor_one c.args.step) c.requires.step c.requires.other c.requires.room
