-- The rooms of the steps, two for each arc, as they lie in words: that of the step forward over the arc, and then that
-- of the step back over it. All are in units of 1,000 cubic metres.
use Rattle.std.specs.Prelude.{ℕ, ◌≡◌, ◌≢◌, ◌+◌, ◌*◌, ◌<◌, List, length, map, slice_index}
use Rattle.std.specs.List.{range_with_len}
use Rattle.circulation.specs.Residual.{opposite}

-- the flow on each arc, from what is held on it and the room back over it
unfoldable pub flows_over : List ℕ → List ℕ → List ℕ
flows_over lower rooms =
    map (λ a. slice_index lower a + slice_index rooms (2 * a + 1)) (range_with_len 0 (length lower))

-- the upper bound of each arc, from its flow and the room forward over it
unfoldable pub uppers_over : List ℕ → List ℕ → List ℕ
uppers_over lower rooms =
    map (λ a. slice_index lower a + slice_index rooms (2 * a + 1) + slice_index rooms (2 * a))
    (range_with_len 0 (length lower))

-- the rooms are how much the flow on each arc may rise, to its upper bound, and fall, to what is held on it
pub record AreRooms (lower upper flow rooms : List ℕ) : Type 0 where
  pub uppers : length upper ≡ length lower
  pub flows : length flow ≡ length lower
  pub size : length rooms ≡ 2 * length lower
  pub rise : (a : ℕ) → a < length lower → slice_index flow a + slice_index rooms (2 * a) ≡ slice_index upper a
  pub fall : (a : ℕ) → a < length lower → slice_index lower a + slice_index rooms (2 * a + 1) ≡ slice_index flow a

-- an amount went from the room of a step to that of the step over the same arc the other way
pub record IsRoomMoved (old new : List ℕ) (s amount : ℕ) : Type 0 where
  pub size : length new ≡ length old
  pub taken : slice_index new s + amount ≡ slice_index old s
  pub given : slice_index new (opposite s) ≡ slice_index old (opposite s) + amount
  pub others : (t : ℕ) → t ≢ s → t ≢ opposite s → slice_index new t ≡ slice_index old t
