use Rattle.std.proofs.Common.{ℕ, ◌<◌, ◌≤◌, slice_index}
use Rattle.circulation.specs.Residual.{room_of}
use Rattle.rivers_first.specs.Rounds.{links_above}
use Rattle.rivers_first.specs.Sent.{IsRoomOfOne}
use Rattle.rivers_first.proofs.rounds.Rounds.least_room.Given as goal

abbrev pub invariant-loop-at : goal.invariant-loop-at
invariant-loop-at l = record {
  least : (i : ℕ) → i < l.at → l.least ≤ room_of (links_above l.self.basin (slice_index l.self.kept))
      (slice_index l.flow) (slice_index l.round i);
  one : IsRoomOfOne l.self.basin l.self.kept l.flow l.round l.at l.least;
}
