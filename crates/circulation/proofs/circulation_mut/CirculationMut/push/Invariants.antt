use Rattle.std.proofs.Common.{ℕ, ◌≡◌, ◌+◌, ◌*◌, ◌^◌, ◌<◌, length, slice_index}
use Rattle.circulation.specs.BorrowedWords.{contents}
use Rattle.circulation.proofs.Pushing.{IsPushState}
use Rattle.circulation.proofs.circulation_mut.CirculationMut.push.Given as goal

abbrev pub invariant-loop-at : goal.invariant-loop-at
invariant-loop-at g l = record {
  push : IsPushState l.fn.self (contents l.self-inside) l.first (l.first + l.count) l.at l.amount;
  small : (p : ℕ) → slice_index l.self-inside.end.now p < 2 ^ 32;
  rooms : length l.self-inside.rooms.now ≡ 2 * length l.self-inside.lower.now;
}
