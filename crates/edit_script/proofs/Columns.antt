-- A series has at most 2,000 gauges and at most 2,000 rights with wants.
use Rattle.std.proofs.Common.{◌≡◌, ℕ, ◌≤◌, Bool, arith, List, length, filter}
use Rattle.water_model.specs.Indices.{numbers_from}
use Rattle.water_model.specs.Valid.{IsValidBasin, IsSeriesOf, is_gauged, is_in_series}
use Rattle.water_model.specs.declared.types.Basin.{Basin}
use Rattle.water_model.specs.declared.types.Series.{Series}
use Rattle.water_model.proofs.Order.{length-numbers_from}
use Rattle.water_model.proofs.Gauges.{filter_short}

bounded_columns : (p : ℕ → Bool) (count : ℕ) (keys : List ℕ) → keys ≡ filter p (numbers_from 0 count) →
    length keys ≤ count
bounded_columns p count keys e =
    rw e (omega (arith, filter_short p (numbers_from 0 count), length-numbers_from 0 count))

pub bounded_gauges : (b : Basin) (series : Series) → IsValidBasin b → IsSeriesOf b series → length series.gauged ≤ 2000
bounded_gauges b series valid fits =
    omega (arith, bounded_columns (λ n. is_gauged b n) (length b.nodes) series.gauged fits.gauged, valid.bounded.nodes)

pub bounded_wants : (b : Basin) (series : Series) → IsValidBasin b → IsSeriesOf b series → length series.wanted ≤ 2000
bounded_wants b series valid fits =
    omega (
      arith,
      bounded_columns (λ k. is_in_series b k) (length b.rights) series.wanted fits.wanted,
      valid.bounded.rights,
    )
