-- The months that a script shows, and their text.
use Rattle.std.specs.Prelude.{◌≡◌, ℕ, ◌<◌, ◌≤◌, ◌⊎◌, List, [], ◌∷◌, ◌++◌, length, take, codes, Bool, true, false}
use Rattle.std.specs.Prelude.{Result, Ok, Err, slice_get, Some, count_by}
use Rattle.std.specs.Fmt.{decimal}
use Rattle.std.specs.List.{flat_map}
use Rattle.water_edge.specs.Edge.{Extends, Output}
use Rattle.water_edge.specs.declared.sink.Sink
use Rattle.result_text.specs.Begun.{IsPrefixOf}
use Rattle.duality.specs.Laws.{HaveSameOutcome}
use Rattle.result_lines.specs.Spelling.{whole_line}
use Rattle.result_lines.specs.Text.{items_of_month}
use Rattle.water_model.specs.declared.types.Basin.{Basin}
use Rattle.water_model.specs.declared.types.Series.{Series}
use Rattle.water_model.specs.declared.types.MonthRecord.{MonthRecord}
use Rattle.edit_script.specs.Edits.{with_inflow, with_want}
use Rattle.edit_script.specs.declared.edit.Edit.{Edit}
use Rattle.edit_script.specs.declared.edit.Edit.TheVariants.{Inflow, Want, Show}
use Rattle.edit_session.specs.Sessions.{HasKeptMonths}
use Rattle.edit_session.specs.declared.stop.EditStop.{EditStop}
use Rattle.edit_session.specs.declared.stop.EditStop.TheVariants as stop

-- in each run of the basin and the series whose sets are the reaches, the month of this index agrees with this one in
-- all but flows and single outflows, and has the same sets
abbrev pub AgreesWithRuns : Basin → Series → ℕ → MonthRecord → Type 0
AgreesWithRuns b series index m =
    (records : List MonthRecord) (n : MonthRecord) → HasKeptMonths
    (record { basin = b; series = series; kept = records }) →
    slice_get records index ≡ Some n → HaveSameOutcome m n × (m.cuts.sets ≡ n.cuts.sets)

-- the record is that of a month in some partial history of the basin and the series, with the reaches as the sets of
-- short rights, and agrees with that of a fresh run
pub record IsMonthOf (b : Basin) (series : Series) (index : ℕ) (m : MonthRecord) : Type 0 where
  pub months : List MonthRecord
  pub kept : HasKeptMonths (record { basin = b; series = series; kept = months })
  pub here : slice_get months index ≡ Some m
  pub agrees : AgreesWithRuns b series index m

-- The months that a script shows, in order: each is one of the basin and of the series as it is by then.
abbrev pub AreShown : Basin → Series → List Edit → List MonthRecord → Type 0
AreShown b series [] shown = shown ≡ []
AreShown b series (Inflow index gauge amount ∷ edits) shown =
    AreShown b (with_inflow series index gauge amount) edits shown
AreShown b series (Want index place amount ∷ edits) shown = AreShown b (with_want series index place amount) edits shown
AreShown b series (Show index ∷ edits) [] = ⊥
AreShown b series (Show index ∷ edits) (m ∷ shown) = IsMonthOf b series index m × AreShown b series edits shown

-- the months that the first lines of a script show
pub record HaveShown (b : Basin) (series : Series) (edits : List Edit) (shown : List MonthRecord) : Type 0 where
  pub count : ℕ
  pub are : AreShown b series (take count edits) shown

-- how many months a script shows
abbrev pub is_show : Edit → Bool
is_show (Inflow index gauge amount) = false
is_show (Want index place amount) = false
is_show (Show index) = true

abbrev pub shows_in : List Edit → ℕ
shows_in edits = count_by is_show edits

-- the lines of a month, of months, and the last line
abbrev pub lines_of : Basin → MonthRecord → List ℕ
lines_of b m = flat_map (whole_line b) (items_of_month b m)

abbrev pub months_bytes : Basin → List MonthRecord → List ℕ
months_bytes b shown = flat_map (lines_of b) shown

abbrev pub done_bytes : ℕ → List ℕ
done_bytes shows = codes "done " ++ decimal shows ++ codes "\n"

-- a sink was left alone, or all that it took is flushed
abbrev pub IsUntouchedOrFlushed : {K : Type 0} → K → K → Output → Type 0
IsUntouchedOrFlushed old new output = (new ≡ old) ⊎ (output.flushed ≡ output.taken)

-- where no month was put the sink is as it was, and else all is flushed
abbrev pub AreFlushed : {K : Type 0} → List MonthRecord → K → K → Output → Type 0
AreFlushed [] old new output = new ≡ old
AreFlushed (m ∷ shown) old new output = output.flushed ≡ output.taken

-- the lines of these months were put, and with each month all is flushed
pub record ArePut {K : Type 0} (sink : Sink.Ghosts K) (b : Basin) (shown : List MonthRecord) (old new : K) : Type 0 where
  pub text : Extends (sink.output old) (sink.output new) (months_bytes b shown)
  pub flushed : AreFlushed shown old new (sink.output new)

-- The months of some lines were put, and of the next one a prefix.
pub record StopsShowing {K : Type 0} (sink : Sink.Ghosts K) (b : Basin) (series : Series) (edits : List Edit)
    (old new : K) : Type 0 where
  pub shown : List MonthRecord
  pub next : MonthRecord
  pub are : HaveShown b series edits (shown ++ next ∷ [])
  pub between : K
  pub put : ArePut sink b shown old between
  pub prefix : (count : ℕ) × (count ≤ length (lines_of b next)) ×
      Extends (sink.output between) (sink.output new) (take count (lines_of b next))

-- The months that are shown are put. A failure of the sink stops at one of them; where memory is lacking those shown so
-- far stand.
abbrev pub Answers : {K : Type 0} → Sink.Ghosts K → Basin → Series → List Edit → Result (Unit {0}) EditStop → K → K →
    Type 0
Answers sink b series edits (Ok _) old new =
    (shown : List MonthRecord) × AreShown b series edits shown × ArePut sink b shown old new
Answers sink b series edits (Err stop.SinkFailed) old new = StopsShowing sink b series edits old new
Answers sink b series edits (Err stop.OutOfMemory) old new =
    (shown : List MonthRecord) × HaveShown b series edits shown × ArePut sink b shown old new

-- The lines of all months that are shown and the last line are appended and flushed. After a failure of the sink all
-- months that were shown but the last stand, and are flushed, and of that one a prefix; or all months with a prefix of
-- the last line. Where memory is lacking the whole lines of the months shown so far stand, all flushed.
abbrev pub AnswersWhole : Basin → Series → List Edit → Result (Unit {0}) EditStop → Output → Output →
    Type 0
AnswersWhole b series edits (Ok _) old new =
    (shown : List MonthRecord) × AreShown b series edits shown ×
    Extends old new (months_bytes b shown ++ done_bytes (shows_in edits)) × (new.flushed ≡ new.taken)
AnswersWhole b series edits (Err stop.SinkFailed) old new =
    (shown : List MonthRecord) × HaveShown b series edits shown ×
    IsPrefixOf (months_bytes b) (months_bytes b shown ++ done_bytes (shows_in edits)) shown
    (AreShown b series edits shown) old new
AnswersWhole b series edits (Err stop.OutOfMemory) old new =
    (shown : List MonthRecord) × HaveShown b series edits shown ×
    Extends old new (months_bytes b shown) × (0 < length shown → new.flushed ≡ new.taken)
