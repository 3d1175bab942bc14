-- Sessions, and the months that they keep.
use Rattle.std.specs.Prelude.{List, map, Box}
use Rattle.std.specs.Global.{Global}
use Rattle.water_model.specs.History.{IsPartialHistory, HaveReaches}
use Rattle.water_model.specs.declared.types.Basin.{Basin}
use Rattle.water_model.specs.declared.types.Series.{Series}
use Rattle.water_model.specs.declared.types.MonthRecord.{MonthRecord}

-- the records that boxes hold
abbrev pub records_of : List (Box MonthRecord Global) → List MonthRecord
records_of boxes = map (λ m. m.value) boxes

-- a session: its basin, its series as it is now, and the records of the first months
pub record SessionView : Type 0 where
  pub basin : Basin
  pub series : Series
  pub kept : List MonthRecord

-- what is kept is a partial history of the basin and the series as it is now, with the reaches as the sets of short
-- rights
pub record HasKeptMonths (s : SessionView) : Type 0 where
  pub partial : IsPartialHistory s.basin s.series s.kept
  pub reaches : HaveReaches s.basin s.kept
