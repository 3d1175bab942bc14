use Rattle.std.proofs.Common.{ℕ, ◌≡◌, length, replicate, arith, ap, ◌∙◌}
use Rattle.circulation.proofs.Starts.{words_after}
use Rattle.circulation.proofs.write_month.Goals as goal

pub split_at_mut-lowers-requires : goal.split_at_mut-lowers-requires
split_at_mut-lowers-requires c = omega (arith, c.split_at_mut-rooms.ensures.back_len, c.requires.fits)

pub write_last_rooms-requires-clause-size : goal.write_last_rooms-requires-clause-size
write_last_rooms-requires-clause-size c = omega (arith, c.split_at_mut-rooms.ensures.front_len, c.requires.upper)

pub write_last_rooms-requires-clause-flows : goal.write_last_rooms-requires-clause-flows
write_last_rooms-requires-clause-flows c = omega (arith, c.requires.start, c.requires.upper)

pub write_last_rooms-requires-clause-within : goal.write_last_rooms-requires-clause-within
write_last_rooms-requires-clause-within c = rw c.requires.upper c.requires.within

pub slice_bounds-copy_from_slice-end : goal.slice_bounds-copy_from_slice-end
slice_bounds-copy_from_slice-end c = omega (
  arith,
  c.split_at_mut-rooms.ensures.back_len,
  c.split_at_mut-lowers.ensures.back_len,
  c.requires.fits,
)

pub returns : goal.returns
returns c =
    let rooms = rw c.requires.upper at c.write_last_rooms.ensures in
    let lowers : c.fill.new.self ≡ replicate c.args.arcs 0 = c.fill.ensures.after (λ y h. h)
    ∙ ap (λ (n : ℕ). replicate {A = ℕ} n 0) c.split_at_mut-lowers.ensures.front_len in
    let rest = words_after c.args.arcs (length c.args.supply.now) c.args.words.now
    c.split_at_mut-rooms.ensures.back c.split_at_mut-lowers.ensures.back in
    let supply = c.copy_from_slice.ensures.after in
    (c.write_last_rooms.new.rooms, (rooms, cc))
