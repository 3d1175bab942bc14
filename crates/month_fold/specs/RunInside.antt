-- What an engine and a run keep.
use Rattle.std.specs.Prelude.{◌≡◌, length, map}
use Rattle.lag_returns.specs.Lags.{return_rows}
use Rattle.water_model.specs.Valid.{IsValidBasin}
use Rattle.month_terms.specs.Calendars.{IsCalendar}
use Rattle.month_terms.specs.Terms.{FitsRecord}
use Rattle.month_fold.specs.Runs.{EngineView, RunView, HasRecords, run_with}
use Rattle.month_fold.specs.declared.engine.Engine.TheInside.{Inside as EngineInside}
use Rattle.month_fold.specs.declared.run.Run.TheInside.{Inside}

abbrev pub engine_of : EngineInside → EngineView
engine_of e = record { basin = e.basin.now; last = e.month.value; lags = e.lags; used = e.used }

-- a valid basin, what is derived from it once, and room for its months
pub record IsFitted (e : EngineInside) : Type 0 where
  pub valid : IsValidBasin e.basin.now
  pub solver : e.solver.value ≡ e.basin.now
  pub calendar : IsCalendar e.basin.now e.calendar
  pub tables : e.tables.items ≡ map (λ v. v.area) e.basin.now.reservoirs
  pub month : FitsRecord e.basin.now e.month.value
  pub rows : return_rows e.lags ≡ e.basin.now.returns
  pub used : length e.used ≡ length e.basin.now.rights

abbrev pub view_of : Inside → RunView
view_of i = run_with i.engine i.series.now i.done

-- the run went through some months
abbrev pub IsValidState : Inside → Type 0
IsValidState i = HasRecords (view_of i)
