-- What is kept of the traces, instead of their months.
use Rattle.std.specs.Prelude.{◌≡◌, ℕ, ◌+◌, ◌*◌, ◌<◌, List, [], ◌++◌, drop, map, length, sum_by, slice_index}
use Rattle.std.specs.Prelude.{slice_index_or, slice_get, Some}
use Rattle.month_fold.specs.Runs.{RunView, RunStandsFor}
use Rattle.water_model.specs.History.{IsHistory}
use Rattle.water_model.specs.Indices.{numbers_from}
use Rattle.water_model.specs.declared.types.Basin.{Basin}
use Rattle.water_model.specs.declared.types.Series.{Series}
use Rattle.water_model.specs.declared.types.MonthRecord.{MonthRecord}
use Rattle.index_seq.specs.Traces.{begun_after, delivered_in_year, yearly_deliveries}

-- by right, what it was delivered in the years of some traces, and in the first years of one more
pub record AreSums (b : Basin) (traces : List (List MonthRecord)) (records : List MonthRecord) (years : ℕ)
    (sums : List (List ℕ)) : Type 0 where
  pub count : length sums ≡ length b.rights
  pub each : (r : ℕ) → r < length b.rights →
      slice_index_or sums r [] ≡ yearly_deliveries b traces r ++ map (delivered_in_year records r)
      (numbers_from 0 years)

-- by right, what it was delivered in a trace after its first `years` years
pub record IsYear (b : Basin) (records : List MonthRecord) (years : ℕ) (year : List ℕ) : Type 0 where
  pub count : length year ≡ length b.rights
  pub each : (r : ℕ) → r < length b.rights →
      slice_index year r ≡ sum_by (λ m. slice_index m.delivered r) (drop (12 * years) records)

-- by right, that it was delivered nothing yet in a year
pub record IsEmptyYear (b : Basin) (year : List ℕ) : Type 0 where
  pub count : length year ≡ length b.rights
  pub zeros : (r : ℕ) → r < length b.rights → slice_index year r ≡ 0

-- the first traces of a record
pub record AreFirst (b : Basin) (series : Series) (traces : List (List MonthRecord)) : Type 0 where
  pub each : (y : ℕ) (records : List MonthRecord) → slice_get traces y ≡ Some records →
      IsHistory b (begun_after series y) records

-- a trace is under way, after whole years and some months of one more; its number is that of the traces before it
pub record IsWithinTrace (b : Basin) (series : Series) (trace years months : ℕ) (run : RunView) (all : List (List ℕ))
    (so_far : List ℕ) : Type 0 where
  pub traces : List (List MonthRecord)
  pub number : length traces ≡ trace
  pub first : AreFirst b series traces
  pub basin : run.basin ≡ b
  pub fits : run.series ≡ begun_after series trace
  pub records : List MonthRecord
  pub stands : RunStandsFor run records
  pub count : length records ≡ 12 * years + months
  pub sums : AreSums b traces records years all
  pub year : IsYear b records years so_far

-- the sums of some whole traces
pub record HaveSums (b : Basin) (series : Series) (trace : ℕ) (all : List (List ℕ)) : Type 0 where
  pub traces : List (List MonthRecord)
  pub number : length traces ≡ trace
  pub first : AreFirst b series traces
  pub sums : AreSums b traces [] 0 all
