-- The traces of a record: the series begun in each of its years, and a history of each.
use Rattle.std.specs.Prelude.{◌≡◌, ℕ, ◌+◌, ◌*◌, ◌/◌, ◌%◌, ◌<◌, List, ◌++◌, drop, take, map, length, sum_by, slice_index}
use Rattle.std.specs.Prelude.{slice_get, Some}
use Rattle.std.specs.List.{flat_map}
use Rattle.water_model.specs.History.{IsHistory}
use Rattle.water_model.specs.Indices.{numbers_from}
use Rattle.water_model.specs.declared.types.Basin.{Basin}
use Rattle.water_model.specs.declared.types.Series.{Series}
use Rattle.water_model.specs.declared.types.MonthRecord.{MonthRecord}

-- a run of whole years, and how many they are
abbrev pub HasWholeYears : Basin → Type 0
HasWholeYears b = b.months % 12 ≡ 0

abbrev pub years_of : Basin → ℕ
years_of b = b.months / 12

-- the series whose gauges' record begins `years` years later; what stood before comes last
abbrev pub begun_after : Series → ℕ → Series
begun_after series years =
    record series {
      amount = drop (12 * years * length series.gauged) series.amount ++ take (12 * years * length series.gauged)
          series.amount;
    }

-- a series that differs from another at most in the gauges' amounts, of which it has as many
pub record IsRotationOf (series begun : Series) : Type 0 where
  pub rest : begun ≡ record series { amount = begun.amount }
  pub count : length begun.amount ≡ length series.amount

-- the amount of each gauge in a month is that of `years` years later, counted on from the beginning past the end.
-- The wants stay
pub record IsBegunAfter (b : Basin) (series : Series) (years : ℕ) (begun : Series) : Type 0 where
  pub gauged : begun.gauged ≡ series.gauged
  pub amount : (i gauge : ℕ) → i < b.months → gauge < length series.gauged →
      slice_index begun.amount (i * length series.gauged + gauge)
      ≡ slice_index series.amount ((i + 12 * years) % b.months * length series.gauged + gauge)
  pub wanted : begun.wanted ≡ series.wanted
  pub want : begun.want ≡ series.want

-- one history for each year of the record, of the series begun in that year
pub record AreTraces (b : Basin) (series : Series) (traces : List (List MonthRecord)) : Type 0 where
  pub count : length traces ≡ years_of b
  pub each : (y : ℕ) (records : List MonthRecord) → slice_get traces y ≡ Some records →
      IsHistory b (begun_after series y) records

-- what a right is delivered in a year of a trace, which is twelve months, counted from its first
abbrev pub delivered_in_year : List MonthRecord → ℕ → ℕ → ℕ
delivered_in_year records right year = sum_by (λ m. slice_index m.delivered right) (take 12 (drop (12 * year) records))

-- and in each year of each trace
abbrev pub yearly_deliveries : Basin → List (List MonthRecord) → ℕ → List ℕ
yearly_deliveries b traces right =
    flat_map (λ records. map (delivered_in_year records right) (numbers_from 0 (years_of b))) traces
