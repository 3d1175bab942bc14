-- How an ensemble may end.
use Rattle.std.specs.Prelude.{◌≡◌, ℕ, ◌≤◌, List, [], length, take, ⊤, slice_index_or, Result, Ok, Err}
use Rattle.std.specs.List.Sorted.{IsNonDecreasingBy}
use Rattle.water_edge.specs.Edge.{Extends, Output}
use Rattle.water_model.specs.declared.types.Basin.{Basin}
use Rattle.water_model.specs.declared.types.Series.{Series}
use Rattle.water_model.specs.declared.types.MonthRecord.{MonthRecord}
use Rattle.index_seq.specs.Text.{ensemble_lines, ensemble_text}
use Rattle.index_seq.specs.Traces.{AreTraces, yearly_deliveries}
use Rattle.index_seq.specs.declared.stop.EnsembleStop.{EnsembleStop}
use Rattle.index_seq.specs.declared.stop.EnsembleStop.TheVariants as stop

-- by right, the amounts of whole traces in order, which have the lines of these traces
pub record HaveLines (b : Basin) (series : Series) (amounts : List (List ℕ)) : Type 0 where
  pub traces : List (List MonthRecord)
  pub whole : AreTraces b series traces
  pub count : length amounts ≡ length b.rights
  pub sorted : (r : ℕ) → IsNonDecreasingBy (λ x. x) (slice_index_or amounts r [])
  pub lines : ensemble_lines b (λ r. slice_index_or amounts r []) ≡ ensemble_lines b (yearly_deliveries b traces)

-- the text of the traces is appended, or after a failure of the sink a prefix of it
abbrev pub WritesTraces : Basin → Series → Result (Unit {0}) EnsembleStop → Output → Output → Type 0
WritesTraces b series (Ok _) old new = (traces : List (List MonthRecord)) × AreTraces b series traces ×
    Extends old new (ensemble_text b traces)
WritesTraces b series (Err stop.SinkFailed) old new =
    (traces : List (List MonthRecord)) × AreTraces b series traces
    × ((count : ℕ) × (count ≤ length (ensemble_text b traces)) × Extends old new (take count (ensemble_text b traces)))
WritesTraces b series (Err stop.OutOfMemory) old new = ⊤
