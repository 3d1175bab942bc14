use Rattle.std.proofs.Common.{◌≡◌, ◌-◌, ◌++◌, length, take-append-drop, arith, sym}
use Rattle.circulation.proofs.RoomLists.{rooms_last, last_within}
use Rattle.circulation.proofs.rooms.write_last_rooms.Goals as goal

pub overflow_sub-empty : goal.overflow_sub-empty
overflow_sub-empty c = omega (arith, c.requires.flows)

pub overflow_mul-empty : goal.overflow_mul-empty
overflow_mul-empty c = omega (arith, c.requires.size)

pub split_at_mut-first_rooms-requires : goal.split_at_mut-first_rooms-requires
split_at_mut-first_rooms-requires c = omega (arith, c.requires.size)

pub split_at-requires : goal.split_at-requires
split_at-requires c = omega arith

pub write_empty_rooms-requires : goal.write_empty_rooms-requires
write_empty_rooms-requires c = omega (arith, c.split_at_mut-first_rooms.ensures.front_len, c.split_at.ensures.front_len)

pub write_rooms-requires-clause-size : goal.write_rooms-requires-clause-size
write_rooms-requires-clause-size c = omega (
  arith,
  c.split_at_mut-first_rooms.ensures.back_len,
  c.split_at.ensures.back_len,
  c.requires.size,
  c.requires.flows,
)

pub write_rooms-requires-clause-flows : goal.write_rooms-requires-clause-flows
write_rooms-requires-clause-flows c = omega (arith, c.split_at.ensures.back_len, c.requires.flows)

pub write_rooms-requires-clause-within : goal.write_rooms-requires-clause-within
write_rooms-requires-clause-within c = λ a b.
    last_within c.args.upper.now c.args.flow.now c.split_at.ensures.back c.requires.flows c.requires.within a b

pub returns : goal.returns
returns c =
    let empty = length c.args.upper.now - length c.args.flow.now in
    let parts : c.args.upper.now ≡ c.split_at.result.0.now ++ c.split_at.result.1.now =
    rw (c.split_at.ensures.front, c.split_at.ensures.back) (sym (take-append-drop empty c.args.upper.now)) in
    rooms_last parts (omega (arith, c.split_at.ensures.front_len)) c.write_empty_rooms.ensures c.write_rooms.ensures
