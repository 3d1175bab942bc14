-- Runs, and the months that they went through.
use Rattle.std.specs.Prelude.{◌≡◌, ℕ, List, map, length}
use Rattle.lag_returns.specs.Lags.{InTransit}
use Rattle.lag_returns.specs.Lags as lag
use Rattle.water_model.specs.History.{IsPartialHistory, Follows, opening_after, HaveReaches, HasReaches}
use Rattle.month_terms.specs.Terms.{HasUsed}
use Rattle.water_model.specs.Valid.{IsValidBasin, IsSeriesOf}
use Rattle.water_model.specs.declared.types.Basin.{Basin}
use Rattle.water_model.specs.declared.types.Series.{Series}
use Rattle.water_model.specs.declared.types.MonthRecord.{MonthRecord}

-- a run of a basin and a series: how many months are done, the record of the last one, what is on its way back to the
-- river, and what each right with a volume used of it before the next month. Before the first month the last record has
-- nothing but the closing storage, which is the basin's opening
pub record RunView : Type 0 where
  pub basin : Basin
  pub series : Series
  pub done : ℕ
  pub last : MonthRecord
  pub lags : List InTransit
  pub used : List ℕ

-- what a run is made with, apart from its series
pub record EngineView : Type 0 where
  pub basin : Basin
  pub last : MonthRecord
  pub lags : List InTransit
  pub used : List ℕ

-- the run that it makes of a series, after `done` months
abbrev pub run_with : EngineView → Series → ℕ → RunView
run_with engine series done = record {
  basin = engine.basin;
  series = series;
  done = done;
  last = engine.last;
  lags = engine.lags;
  used = engine.used;
}

-- the run of a valid basin and a series of it went through these months: they are a partial history, with any tight
-- cuts as the sets of short rights, after which the next month opens with what is stored, on its way and used
pub record WentThrough (run : RunView) (records : List MonthRecord) : Type 0 where
  pub valid : IsValidBasin run.basin
  pub fits : IsSeriesOf run.basin run.series
  pub partial : IsPartialHistory run.basin run.series records
  pub done : run.done ≡ length records
  pub stored : run.last.closing ≡ opening_after run.basin records
  pub lags : lag.LagsStandFor run.lags run.basin.returns (map (λ m. m.delivered) records)
  pub used : HasUsed run.basin (map (λ m. m.delivered) records) run.used

-- and the sets are the reaches
pub record RunStandsFor (run : RunView) (records : List MonthRecord) : Type 0 where
  pub valid : IsValidBasin run.basin
  pub fits : IsSeriesOf run.basin run.series
  pub partial : IsPartialHistory run.basin run.series records
  pub reaches : HaveReaches run.basin records
  pub done : run.done ≡ length records
  pub stored : run.last.closing ≡ opening_after run.basin records
  pub lags : lag.LagsStandFor run.lags run.basin.returns (map (λ m. m.delivered) records)
  pub used : HasUsed run.basin (map (λ m. m.delivered) records) run.used

-- the run went through some months
pub record HasRecords (run : RunView) : Type 0 where
  pub records : List MonthRecord
  pub went : WentThrough run records

-- and their sets are the reaches
pub record HasMonths (run : RunView) : Type 0 where
  pub records : List MonthRecord
  pub stands : RunStandsFor run records

-- the record follows these, and its sets are the reaches of its short rights
pub record IsNext (b : Basin) (series : Series) (records : List MonthRecord) (m : MonthRecord) : Type 0 where
  pub follows : Follows b series records m
  pub reaches : HasReaches b m

-- a later moment of the run: its basin and its series are the same
pub record GoesOn (run later : RunView) : Type 0 where
  pub basin : later.basin ≡ run.basin
  pub series : later.series ≡ run.series
