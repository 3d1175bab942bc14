-- What the series of traces are, and what the traces of a record leave no choice of.
use Rattle.std.specs.Prelude.{◌≡◌, ℕ, ◌<◌, List}
use Rattle.water_model.specs.Valid.{IsValidBasin, IsSeriesOf}
use Rattle.water_model.specs.declared.types.Basin.{Basin}
use Rattle.water_model.specs.declared.types.Series.{Series}
use Rattle.water_model.specs.declared.types.MonthRecord.{MonthRecord}
use Rattle.index_seq.specs.Traces.{AreTraces, IsBegunAfter, begun_after, yearly_deliveries, years_of}

-- the series of trace `years` has in each month the amounts of that many years later, counted on from the beginning
-- past the end
abbrev pub TracesBeginInTheirYear : Type 0
TracesBeginInTheirYear = (b : Basin) (series : Series) (years : ℕ) → IsSeriesOf b series → years < years_of b →
    IsBegunAfter b series years (begun_after series years)

-- the yearly deliveries do not depend on which histories are taken
abbrev pub TracesHaveOneResult : Type 0
TracesHaveOneResult = (b : Basin) (series : Series) (traces others : List (List MonthRecord)) → IsValidBasin b →
    AreTraces b series traces → AreTraces b series others →
    (right : ℕ) → yearly_deliveries b traces right ≡ yearly_deliveries b others right
