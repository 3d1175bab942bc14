-- What changes of a series leave as it was.
use Rattle.std.specs.Prelude.{◌≡◌, ℕ, ◌<◌, List, length, take}
use Rattle.water_model.specs.Hydrology.{inflow_at, want_of}
use Rattle.water_model.specs.Valid.{IsSeriesOf}
use Rattle.water_model.specs.declared.types.Basin.{Basin}
use Rattle.water_model.specs.declared.types.Series.{Series}
use Rattle.water_model.specs.declared.types.MonthRecord.{MonthRecord}
use Rattle.edit_script.specs.Edits.{edited_by, kept_by, IsValidEdit}
use Rattle.edit_session.specs.Sessions.{HasKeptMonths}
use Rattle.edit_script.specs.declared.edit.Edit.{Edit}

-- two series give each node the same inflow, and each right the same want, in all months before this one
pub record AgreeBefore (b : Basin) (series other : Series) (month : ℕ) : Type 0 where
  pub inflows : (node i : ℕ) → node < length b.nodes → i < month → inflow_at b series node i ≡ inflow_at b other node i
  pub wants : (right i used : ℕ) → right < length b.rights → i < month →
      want_of b series right i used ≡ want_of b other right i used

-- A series stays one of its basin through each change.
abbrev pub EditedSeriesFit : Type 0
EditedSeriesFit = (b : Basin) (series : Series) (e : Edit) → IsSeriesOf b series → IsValidEdit b series e →
    IsSeriesOf b (edited_by series e)

-- Kept months stay. Of months of a basin and a series those before a change are months of the changed series: a month
-- reads nothing of a series but its own numbers.
abbrev pub KeptMonthsStay : Type 0
KeptMonthsStay =
    (b : Basin) (series : Series) (records : List MonthRecord) (e : Edit) → IsSeriesOf b series →
    IsValidEdit b series e →
    HasKeptMonths (record { basin = b; series = series; kept = records }) →
    HasKeptMonths (record { basin = b; series = edited_by series e; kept = take (kept_by (length records) e) records })
