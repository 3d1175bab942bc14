-- What changes when water is sent down rivers and no longer through canals.
use Rattle.std.specs.Prelude.{◌≡◌, ◌⊎◌, ℕ, ◌+◌, ◌^◌, ◌<◌, ◌≤◌, false, min, List, length, slice_index}
use Rattle.finite_sums.specs.Sums.{greatest_where}
use Rattle.water_model.specs.Basin.{is_river, is_on_link}
use Rattle.water_model.specs.Plans.{inflow_to, outflow_from}
use Rattle.water_model.specs.declared.types.Basin.{Basin}
use Rattle.circulation.specs.Residual.{arc_of, room_of}
use Rattle.rivers_first.specs.Rounds.{links_above, IsDown}

-- each link's flow is at least what is kept on it, and no more than a river carries
pub record IsWithin (b : Basin) (kept flow : List ℕ) : Type 0 where
  pub count : length flow ≡ length b.links
  pub low : (e : ℕ) → e < length b.links → slice_index kept e ≤ slice_index flow e
  pub high : (e : ℕ) → e < length b.links → slice_index flow e ≤ 10 ^ 15

-- the second flow is within these bounds too, no canal carries more in it, and each node gains and loses as much
pub record IsSent (b : Basin) (kept old new : List ℕ) : Type 0 where
  pub within : IsWithin b kept new
  pub canals : (e : ℕ) → e < length b.links → is_river b e ≡ false → slice_index new e ≤ slice_index old e
  pub nodes : (v : ℕ) → outflow_from b new v + inflow_to b old v ≡ outflow_from b old v + inflow_to b new v

-- the most that one of the first rights has of its want as an instream right on the link
abbrev pub instream_on : Basin → (want flow : List ℕ) → ℕ → ℕ → ℕ
instream_on b want flow count e =
    greatest_where count (λ r. is_on_link b r e) (λ r. min (slice_index want r) (slice_index flow e))

-- that is what is kept on each link
pub record KeepsInstream (b : Basin) (want flow : List ℕ) (count : ℕ) (kept : List ℕ) : Type 0 where
  pub each : (e : ℕ) → e < length b.links → slice_index kept e ≡ instream_on b want flow count e

-- a link carries as much as a river can
pub record HasFullRiver (b : Basin) (flow : List ℕ) : Type 0 where
  pub link : ℕ
  pub in_range : link < length b.links
  pub full : slice_index flow link ≡ 10 ^ 15

-- the flow can be changed so that a link does
pub record CanFill (b : Basin) (kept old : List ℕ) : Type 0 where
  pub flow : List ℕ
  pub sent : IsSent b kept old flow
  pub full : HasFullRiver b flow

-- the amount is the room of one of the first steps, or as much as a river can carry
abbrev pub IsRoomOfOne : Basin → (kept flow round : List ℕ) → ℕ → ℕ → Type 0
IsRoomOfOne b kept flow round count amount =
    (amount ≡ 10 ^ 15) ⊎ ((i : ℕ) × ((i < count) × (amount ≡ room_of (links_above b (slice_index kept))
    (slice_index flow) (slice_index round i))))

-- the canal of a round carries no more than is kept on it
abbrev pub IsRelieved : (kept flow round : List ℕ) → Type 0
IsRelieved kept flow round =
    slice_index flow (arc_of (slice_index round 0)) ≤ slice_index kept (arc_of (slice_index round 0))

-- where the round goes down rivers alone, unless a river can be filled
abbrev pub IsRelievedIfDown : Basin → (kept old flow round : List ℕ) → Type 0
IsRelievedIfDown b kept old flow round = IsDown round → IsRelieved kept flow round ⊎ CanFill b kept old
