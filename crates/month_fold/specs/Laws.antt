-- What the months of a run leave no choice of.
use Rattle.std.specs.Prelude.{◌≡◌, ℕ, List, length, slice_get, Some}
use Rattle.water_model.specs.History.{IsPartialHistory, HaveReaches}
use Rattle.duality.specs.Laws.{HaveSameOutcome}
use Rattle.water_model.specs.Valid.{IsValidBasin}
use Rattle.water_model.specs.declared.types.Basin.{Basin}
use Rattle.water_model.specs.declared.types.Series.{Series}
use Rattle.water_model.specs.declared.types.MonthRecord.{MonthRecord}

-- One outcome, sets included. Two partial histories of one length, each with the reaches as its sets, have one outcome
-- month by month, and the same sets.
abbrev pub RunsHaveOneOutcome : Type 0
RunsHaveOneOutcome =
    (b : Basin) (series : Series) (records others : List MonthRecord) → IsValidBasin b →
    IsPartialHistory b series records → IsPartialHistory b series others → HaveReaches b records →
    HaveReaches b others →
    length records ≡ length others →
    (i : ℕ) (m n : MonthRecord) → slice_get records i ≡ Some m → slice_get others i ≡ Some n →
    HaveSameOutcome m n × (m.cuts.sets ≡ n.cuts.sets)
