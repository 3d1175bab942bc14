-- Scripts of changes to a series: how a call that answers one may end, and what it leaves on out.
use Rattle.std.specs.Prelude.{◌≡◌, ℕ, ◌≤◌, ◌⊎◌, List, length, Ok, Err, IsOk, IsErr, IfSome, ⊤}
use Rattle.water_edge.specs.Edge.{Output}
use Rattle.edit_script.specs.Edits.{cost}
use Rattle.edit_script.specs.Scripts.{script_of}
use Rattle.edit_script.specs.declared.edit.Edit.{Edit}
use Rattle.edit_script.specs.declared.refused.ScriptFault.{ScriptFault}
use Rattle.edit_script.specs.declared.refused.ScriptRefused.TheVariants as refused
use Rattle.edit_session.specs.Shown.{AnswersWhole}
use Rattle.edit_session.specs.declared.stop.EditStop.TheVariants as stop
use Rattle.month_fold.specs.Works.{Solves, WorkDone}
use Rattle.water_model.specs.declared.types.Basin.{Basin}
use Rattle.water_model.specs.declared.types.Series.{Series}
use Rattle.basin_cli.specs.declared.ending.Ending.{Ending}
use Rattle.basin_cli.specs.declared.ending.Ending.TheVariants as ending
use Rattle.basin_cli.specs.declared.ending.File.TheVariants as file
use Rattle.basin_cli.specs.declared.status.Status.{Status}
use Rattle.basin_cli.specs.declared.status.Status.TheVariants.{Done, WriteFault, OutOfMemory}
use Rattle.basin_cli.specs.Bytes.{AreSpelled, IsTooLong, KnownFiles, OfSpelled, file_limit}
use Rattle.basin_cli.specs.Command.{Files}
use Rattle.basin_cli.specs.Out.{MayWrite}
use Rattle.basin_cli.specs.Reading.{AreAccepted, AfterSeries, CompletesAfter, IsDone, OfBoth, StopsReading}

-- the bytes of a script are within the limit, and ask for something of the basin and series that other bytes spell
abbrev pub IsGoodScript : List ℕ → List ℕ → List ℕ → Type 0
IsGoodScript bytes series script =
    (length script ≤ file_limit) × OfSpelled bytes series (λ b s. IsOk (script_of b s script))

-- the bytes of a script are within the limit, and this is the first fault in them and its line
abbrev pub IsScriptRefusedFor : ScriptFault → ℕ → List ℕ → List ℕ → List ℕ → Type 0
IsScriptRefusedFor fault line bytes series script = (length script ≤ file_limit) ×
    OfSpelled bytes series (λ b s. script_of b s script ≡ Err (refused.Refused fault line))

-- the cause of an ending of `edit`
abbrev pub HasEditingCause : Files → List ℕ → Ending → KnownFiles → Type 0 → Type 0 → Type 0
HasEditingCause files script ending.Done known read write = AfterSeries known files script IsGoodScript
HasEditingCause files script ending.WriteFault known read write = write × AfterSeries known files script IsGoodScript
HasEditingCause files script (ending.ScriptRefused fault line) known read write =
    AfterSeries known files script (IsScriptRefusedFor fault line)
HasEditingCause files script (ending.ReadFault file.Script) known read write = read × AreAccepted known files
HasEditingCause files script (ending.InputTooLong file.Script) known read write =
    AfterSeries known files script (λ _ _ bytes. IsTooLong bytes)
HasEditingCause files script other known read write = StopsReading files other known read

-- known bytes that are accepted: the call is done, unless memory ran out
abbrev pub EditsAfter : KnownFiles → Files → List ℕ → Status → Type 0
EditsAfter known files script status =
    CompletesAfter known files (λ bytes series. IfSome (known script) (λ text. IsGoodScript bytes series text →
    IsDone status))

-- What is left on out: for each `show` the lines of its month, of the series as it is by then, and after them how many
-- were shown. After a fault of out all months that were shown but the last are left, flushed, and of that one a prefix,
-- or a prefix of the whole; and where memory ran out the whole lines of the months shown so far, flushed, and nothing
-- else.
abbrev pub LeavesShows : Status → Basin → Series → List Edit → Output → Output → Type 0
LeavesShows Done b series edits old new = AnswersWhole b series edits (Ok tt) old new
LeavesShows WriteFault b series edits old new = AnswersWhole b series edits (Err stop.SinkFailed) old new
LeavesShows OutOfMemory b series edits old new = AnswersWhole b series edits (Err stop.OutOfMemory) old new
LeavesShows status b series edits old new = ⊥

-- out was left with the months that the script shows
pub record ShowsScript (status : Status) (b : Basin) (series : Series) (script : List ℕ)
    (old new : Output) : Type 0 where
  pub edits : List Edit
  pub reads : script_of b series script ≡ Ok edits
  pub written : LeavesShows status b series edits old new

-- what a call that has its files leaves on out: where memory ran out before the script was read, nothing
abbrev pub LeavesScript : Status → Basin → Series → List ℕ → Output → Output → Type 0
LeavesScript OutOfMemory b series script old new = (new ≡ old) ⊎ ShowsScript OutOfMemory b series script old new
LeavesScript status b series script old new = MayWrite status → ShowsScript status b series script old new

-- what `edit` leaves on out: the months that the script shows, of a basin and a series that bytes spell
abbrev pub WritesShows : Status → List ℕ → List ℕ → List ℕ → Output → Output → Type 0
WritesShows status bytes series script old new =
    OfSpelled bytes series (λ b s. ShowsScript status b s script old new)

-- and where memory ran out before a script was read, nothing
abbrev pub EditLeaves : Status → List ℕ → List ℕ → List ℕ → Output → Output → Type 0
EditLeaves OutOfMemory bytes series script old new = (new ≡ old) ⊎ WritesShows OutOfMemory bytes series script old new
EditLeaves status bytes series script old new = MayWrite status → WritesShows status bytes series script old new

abbrev pub EditWrites : KnownFiles → Files → List ℕ → Status → Output → Output → Type 0
EditWrites known files script status old new =
    OfBoth known files (λ bytes series. IfSome (known script) (λ text. EditLeaves status bytes series text old new))

-- No more months are solved than the script costs: a month before the first change is solved once. For a script that is
-- refused none is.
pub record WorkOfScript (b : Basin) (series : Series) (script : List ℕ) (before now : WorkDone) : Type 0 where
  pub asked : (edits : List Edit) → script_of b series script ≡ Ok edits → Solves (cost edits) b before now
  pub refused : IsErr (script_of b series script) → now ≡ before

abbrev pub EditWork : KnownFiles → Files → List ℕ → WorkDone → WorkDone → Type 0
EditWork known files script before now =
    OfBoth known files (λ bytes series. IfSome (known script) (λ text.
    (b : Basin) (s : Series) → AreSpelled bytes series b s → WorkOfScript b s text before now))

-- how the reading of a script's bytes may end without what they ask for
abbrev pub ScriptEnds : Basin → Series → List ℕ → Ending → Type 0
ScriptEnds b series script (ending.ScriptRefused fault line) =
    script_of b series script ≡ Err (refused.Refused fault line)
ScriptEnds b series script ending.OutOfMemory = ⊤
ScriptEnds b series script other = ⊥

-- how the answer to a script's bytes may end
abbrev pub EndsEditing : Basin → Series → List ℕ → Ending → Type 0 → Type 0
EndsEditing b series script ending.Done write = IsOk (script_of b series script)
EndsEditing b series script ending.WriteFault write = write × IsOk (script_of b series script)
EndsEditing b series script other write = ScriptEnds b series script other
