use Rattle.std.proofs.Common.{ℕ, ◌^◌, ◌<◌, slice_index, arith, sym, subst}
use Rattle.circulation.specs.Contents.{Contents, IsCirculation}
use Rattle.circulation.proofs.Lends.{lent_is, lent_lengths}
use Rattle.circulation.proofs.Circulation.lend.Goals as goal

pub split_at-requires : goal.split_at-requires
split_at-requires c = omega (arith, (lent_lengths c.requires.1).0)

pub split_at-requires-2 : goal.split_at-requires-2
split_at-requires-2 c = omega (arith, (lent_lengths c.requires.1).0, c.split_at.ensures.back_len)

pub split_at-requires-3 : goal.split_at-requires-3
split_at-requires-3 c = omega (
  arith,
  (lent_lengths c.requires.1).0,
  c.split_at.ensures.back_len,
  c.split_at-2.ensures.back_len,
)

pub split_at_mut-rooms-requires : goal.split_at_mut-rooms-requires
split_at_mut-rooms-requires c = omega (arith, (lent_lengths c.requires.1).1)

pub split_at_mut-lower-requires : goal.split_at_mut-lower-requires
split_at_mut-lower-requires c = omega (arith, (lent_lengths c.requires.1).1, c.split_at_mut-rooms.ensures.back_len)

pub split_at_mut-supply-requires : goal.split_at_mut-supply-requires
split_at_mut-supply-requires c = omega (
  arith,
  (lent_lengths c.requires.1).1,
  c.split_at_mut-rooms.ensures.back_len,
  c.split_at_mut-lower.ensures.back_len,
)

pub returns : goal.returns
returns c = λ c' w.
    let lent = lent_is w
    c.split_at.ensures.front c.split_at.ensures.back c.split_at-2.ensures.front c.split_at-2.ensures.back
    c.split_at-3.ensures.front c.split_at-3.ensures.back c.split_at_mut-rooms.ensures.front
    c.split_at_mut-rooms.ensures.back c.split_at_mut-lower.ensures.front c.split_at_mut-lower.ensures.back
    c.split_at_mut-supply.ensures.front c.split_at_mut-supply.ensures.back c.split_at_mut-scratch.ensures.front in
    lent.0

pub invariant_of-result : goal.invariant_of-result
invariant_of-result c =
    let w = c.requires.1 in
    let lent = lent_is w
    c.split_at.ensures.front c.split_at.ensures.back c.split_at-2.ensures.front c.split_at-2.ensures.back
    c.split_at-3.ensures.front c.split_at-3.ensures.back c.split_at_mut-rooms.ensures.front
    c.split_at_mut-rooms.ensures.back c.split_at_mut-lower.ensures.front c.split_at_mut-lower.ensures.back
    c.split_at_mut-supply.ensures.front c.split_at_mut-supply.ensures.back c.split_at_mut-scratch.ensures.front in
    record {
      circulation = subst IsCirculation (sym lent.0) w.fixed.circulation;
      small = subst (λ (x : Contents). (p : ℕ) → slice_index x.rows.end p < 2 ^ 32) (sym lent.0) w.fixed.small;
      rooms = lent.1;
    }
