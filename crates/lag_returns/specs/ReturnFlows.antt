-- One row's deliveries on their way, from month to month.
use Rattle.std.specs.Prelude.{◌≡◌, ℕ, ◌+◌, ◌*◌, ◌/◌, ◌%◌, ◌^◌, ◌<◌, ◌≤◌, List, [], ◌∷◌, ◌++◌, length, slice_index, All}
use Rattle.std.specs.Prelude.{min, nat_lt, ◌==◌, if◌then◌else◌}
use Rattle.circular_buffer.specs.Buffer.{Buffer, keep_last}
use Rattle.finite_sums.specs.Sums.{total}
use Rattle.water_model.specs.Lookups.{of_entry}
use Rattle.water_model.specs.declared.types.ReturnRow.{ReturnRow}
use Rattle.lag_returns.specs.Lags.{InTransit, IsLagged}

-- a ring of a row has room for as many deliveries as its lag has months, each at most 10^9, and the remainder is less
-- than a whole unit
pub record IsSoundReturn (row : ReturnRow) (ring : Buffer ℕ) (rest : ℕ) : Type 0 where
  pub lagged : IsLagged row
  pub capacity : ring.capacity ≡ row.lag
  pub small : All (λ n. n ≤ 10 ^ 9) ring.items
  pub remainder : rest < 10000

-- nothing is on its way
abbrev pub fresh : ReturnRow → InTransit
fresh row = record { row = row; waiting = []; remainder = 0 }

-- the same row with nothing on its way
abbrev pub emptied : InTransit → InTransit
emptied w = fresh w.row

-- the parts of 10,000 that are due: none until as many deliveries wait as the lag has months
abbrev pub due : InTransit → ℕ
due w = if nat_lt (length w.waiting) w.row.lag then 0 else w.remainder + w.row.part * slice_index w.waiting 0

abbrev pub arriving : InTransit → ℕ
arriving w = due w / 10000

-- after a month with this delivery to the diversion
abbrev pub with_delivery : ℕ → InTransit → InTransit
with_delivery amount w = record {
  row = w.row;
  waiting = keep_last w.row.lag (w.waiting ++ amount ∷ []);
  remainder = due w % 10000;
}

abbrev pub after_month : List ℕ → InTransit → InTransit
after_month delivered w = with_delivery (slice_index delivered w.row.right) w

-- what one row brings to a node, and what all do
abbrev pub brought_to : ℕ → InTransit → ℕ
brought_to node w = if w.row.node == node then arriving w else 0

abbrev pub brought : List InTransit → ℕ → ℕ
brought lags node = total (length lags) (λ k. of_entry lags k (brought_to node) 0)

-- each amount has room for what the rows bring to its node, of which no row brings more than 10^9
abbrev pub HasRoomFor : List InTransit → List ℕ → Type 0
HasRoomFor lags into =
    (node : ℕ) → node < length into →
    slice_index into node + min (brought lags node) (10 ^ 9 * length lags) < 2 ^ 64
