-- What a session keeps.
use Rattle.water_model.specs.Valid.{IsValidBasin, IsSeriesOf}
use Rattle.edit_session.specs.Sessions.{SessionView, HasKeptMonths, records_of}
use Rattle.edit_session.specs.declared.session.Session.TheInside.{Inside}

abbrev pub view_of : Inside → SessionView
view_of i = record { basin = i.engine.basin; series = i.series; kept = records_of i.kept.items }

-- a valid basin, a series of it, and months of both
pub record IsValidSession (i : Inside) : Type 0 where
  pub valid : IsValidBasin i.engine.basin
  pub series : IsSeriesOf i.engine.basin i.series
  pub kept : HasKeptMonths (view_of i)
