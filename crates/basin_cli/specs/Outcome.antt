-- What each status of a call means: its cause, and what it leaves on out and err.
use Rattle.std.specs.Prelude.{◌≡◌, ℕ, ◌*◌, ◌<◌, ◌≤◌, List, [], ◌∷◌, length, take, Option, Some, None}
use Rattle.std.specs.Prelude.{Err, ⊤, IfSome, IsSome}
use Rattle.water_edge.specs.Edge.{Extends, Output, Rose}
use Rattle.basin_file.specs.BasinFaults.{Spells}
use Rattle.basin_gen.specs.Generator.{generated}
use Rattle.cert_check.specs.declared.refuted.Refuted.{Refuted}
use Rattle.edit_script.specs.declared.refused.ScriptFault.TheVariants as script
use Rattle.index_seq.specs.Traces.{HasWholeYears, years_of}
use Rattle.water_model.specs.History.{HaveReaches, IsHistory, IsShort}
use Rattle.result_lines.specs.Text.{text_bytes}
use Rattle.water_model.specs.declared.types.Basin.{Basin}
use Rattle.water_model.specs.declared.types.Series.{Series}
use Rattle.water_model.specs.declared.types.MonthRecord.{MonthRecord}
use Rattle.water_text.specs.declared.month.Month.{Month}
use Rattle.basin_cli.specs.declared.status.Status.{Status}
use Rattle.basin_cli.specs.declared.status.Status.TheVariants.{Done, No}
use Rattle.basin_cli.specs.declared.checking.Question.{Question}
use Rattle.basin_cli.specs.declared.checking.Question.TheVariants as question
use Rattle.basin_cli.specs.declared.ending.Ending.{Ending}
use Rattle.basin_cli.specs.declared.ending.Ending.TheVariants as ending
use Rattle.basin_cli.specs.declared.ending.File.TheVariants as file
use Rattle.basin_cli.specs.Actions.{IsAnswered, LeavesText, LeavesTraces, LeavesTrial}
use Rattle.basin_cli.specs.Answer.{IsAnswerFor, LeavesAnswer}
use Rattle.basin_cli.specs.Command.{Command, Files, run, check, trial, compare, why, ensemble, edit, upgrade}
use Rattle.basin_cli.specs.Ending.{status_of, line_of}
use Rattle.basin_cli.specs.Explained.{HasMonth, HasRight, IsAbout, WorkUpTo}
use Rattle.basin_cli.specs.Failed.{AskedCounts, AskUpTo, inputs_and, inputs_to, pair_to}
use Rattle.basin_cli.specs.Headline.{HasGreatestPlans, HasGreatestPlansInParts}
use Rattle.basin_cli.specs.Bytes.{AreSpelled, IsGoodBasin, IsSeriesRefusedFor, IsTooLong, KnownFiles, OfBasin}
use Rattle.basin_cli.specs.Bytes.{OfSpelled}
use Rattle.basin_cli.specs.Out.{IsRefusal, IsStopped, MayShow, MayWrite}
use Rattle.basin_cli.specs.Reading.{AreAccepted, AfterBasin, AfterBoth, AfterSeries, CompletesAfter, IsDone}
use Rattle.basin_cli.specs.Reading.{IsJudged, OfBoth, StopsReading}
use Rattle.basin_cli.specs.Edited.{HasEditingCause, EditsAfter, EditWrites, EditWork}
use Rattle.basin_cli.specs.Upgrading.{HasUpgradingCause, UpgradesAfter, UpgradeWrites}
use Rattle.basin_cli.specs.Comparison.{HasComparingCause, ComparesAfter, ComparisonWrites, ComparisonWork}
use Rattle.month_fold.specs.Works.{Solves, SolvesRun, WorkDone}

-- A result's bytes are the text of a history of the basin and series that other bytes spell, whoever wrote it. So the
-- deliveries of each of its months, in order of seniority, are lexicographically greatest among all plans of the month,
-- in whole units and in any parts of a unit.
pub record IsHistoryText (bytes series_bytes result : List ℕ) : Type 0 where
  pub basin : Basin
  pub series : Series
  pub spelled : AreSpelled bytes series_bytes basin series
  pub records : List MonthRecord
  pub history : IsHistory basin series records
  pub text : result ≡ text_bytes basin records
  pub greatest : HasGreatestPlans basin records
  pub greatest_in_parts : HasGreatestPlansInParts basin records

-- A result's bytes are the text of a history, and the set of each short right is its reach. So its `called` lines are
-- all that there are.
pub record IsReachesText (bytes series_bytes result : List ℕ) : Type 0 where
  pub of_history : IsHistoryText bytes series_bytes result
  pub reaches : HaveReaches of_history.basin of_history.records

-- what a yes says of the bytes of a basin, a series and a result
abbrev pub IsYes : Question → List ℕ → List ℕ → List ℕ → Type 0
IsYes question.Check bytes series result = IsHistoryText bytes series result
IsYes question.Audit bytes series result = IsReachesText bytes series result

-- and a no: this is the answer to the bytes of a result, and a yes would be wrong of them
pub record IsRefuted (asked : Question) (refuted : Refuted) (bytes series_bytes result : List ℕ) : Type 0 where
  pub basin : Basin
  pub series : Series
  pub spelled : AreSpelled bytes series_bytes basin series
  pub answer : IsAnswerFor asked basin series result (Err refuted)
  pub no_text : IsYes asked bytes series_bytes result → ⊥

-- the run of the basin that bytes spell hasn't the month
abbrev pub IsOutsideRun : Month → List ℕ → Type 0
IsOutsideRun month bytes = OfBasin bytes (λ b. HasMonth b month → ⊥)

-- the run of the basin that bytes spell has the month, and no right of it has the name
abbrev pub IsUnknownRight : Month → List ℕ → List ℕ → Type 0
IsUnknownRight month name bytes = OfBasin bytes (λ b. HasMonth b month × (HasRight b name → ⊥))

-- the run of the basin that bytes spell has the month, and a right of it has the name
abbrev pub IsAsked : Month → List ℕ → List ℕ → Type 0
IsAsked month name bytes = OfBasin bytes (λ b. HasMonth b month × HasRight b name)

-- the right of the name is short in the month, in a run of the basin and series that bytes spell. If so it is short in
-- every such run, because all have one outcome
abbrev pub IsShortIn : Month → List ℕ → List ℕ → List ℕ → Type 0
IsShortIn month name bytes series = OfSpelled bytes series (λ b s. (right : ℕ) × (m : MonthRecord) ×
    IsAbout b s month name right m × IsShort m right)

-- the run of the basin that bytes spell is one of whole years
abbrev pub IsOfYears : List ℕ → Type 0
IsOfYears bytes = OfBasin bytes HasWholeYears

-- the bytes are a good basin file, and the run of the basin that they spell isn't one of whole years
pub record IsPartYear (bytes : List ℕ) : Type 0 where
  pub good : IsGoodBasin bytes
  pub basin : Basin
  pub spelled : Spells bytes basin
  pub part : HasWholeYears basin → ⊥

-- the cause of an ending of a command that solves the months of a basin and writes what it found
abbrev pub HasSolvingCause : Files → Ending → KnownFiles → Type 0 → Type 0 → Type 0
HasSolvingCause files ending.Done known read write = AreAccepted known files
HasSolvingCause files ending.WriteFault known read write = write × AreAccepted known files
HasSolvingCause files other known read write = StopsReading files other known read

-- the cause of an ending of a check or an audit
abbrev pub HasCheckingCause : Question → Files → List ℕ → Ending → KnownFiles → Type 0 → Type 0 → Type 0
HasCheckingCause asked files result ending.Done known read write = AfterSeries known files result (IsYes asked)
HasCheckingCause asked files result (ending.Refuted refuted) known read write =
    AfterSeries known files result (IsRefuted asked refuted)
HasCheckingCause asked files result ending.WriteFault known read write = write × AreAccepted known files
HasCheckingCause asked files result (ending.ReadFault file.Result) known read write = read × AreAccepted known files
HasCheckingCause asked files result other known read write = StopsReading files other known read

-- the cause of an ending of a trial
abbrev pub HasTrialCause : Ending → Type 0 → Type 0
HasTrialCause ending.Done write = ⊤
HasTrialCause ending.WriteFault write = write
HasTrialCause ending.OutOfMemory write = ⊤
HasTrialCause other write = ⊥

-- the cause of an ending at which the files of an ensemble are not read or refused: the years are counted after the
-- basin and before the series
abbrev pub StopsReadingYears : Files → Ending → KnownFiles → Type 0 → Type 0
StopsReadingYears files ending.PartYear known read = IfSome (known files.basin) IsPartYear
StopsReadingYears files (ending.SeriesRefused finding) known read = IfSome (known files.basin) IsOfYears ×
    AfterBasin known files (IsSeriesRefusedFor finding)
StopsReadingYears files (ending.ReadFault file.Series) known read =
    IfSome (known files.basin) IsOfYears × read × IsSome files.series × IfSome (known files.basin) IsGoodBasin
StopsReadingYears files (ending.InputTooLong file.Series) known read =
    IfSome (known files.basin) IsOfYears × AfterBasin known files (λ _ bytes. IsTooLong bytes)
StopsReadingYears files other known read = StopsReading files other known read

-- the cause of an ending of `ensemble`
abbrev pub HasEnsembleCause : Files → Ending → KnownFiles → Type 0 → Type 0 → Type 0
HasEnsembleCause files ending.Done known read write = IfSome (known files.basin) IsOfYears × AreAccepted known files
HasEnsembleCause files ending.WriteFault known read write = write × IfSome (known files.basin) IsOfYears ×
    AreAccepted known files
HasEnsembleCause files other known read write = StopsReadingYears files other known read

-- the cause of an ending of `why` or `where`
abbrev pub HasExplainingCause : Files → Month → List ℕ → Ending → KnownFiles → Type 0 → Type 0 → Type 0
HasExplainingCause files month name ending.Done known read write = AfterBoth known files (IsShortIn month name)
HasExplainingCause files month name ending.Met known read write =
    AfterBoth known files (λ bytes series. IsAsked month name bytes × (IsShortIn month name bytes series → ⊥))
HasExplainingCause files month name ending.WriteFault known read write = write ×
    AfterBoth known files (λ bytes _. IsAsked month name bytes)
HasExplainingCause files month name (ending.ScriptRefused script.OutsideRun line) known read write =
    (line ≡ 0) × AfterBoth known files (λ bytes _. IsOutsideRun month bytes)
HasExplainingCause files month name (ending.ScriptRefused script.NoSuchName line) known read write =
    (line ≡ 0) × AfterBoth known files (λ bytes _. IsUnknownRight month name bytes)
HasExplainingCause files month name other known read write = StopsReading files other known read

-- what `check` and `audit` leave on out: the answer to the result's bytes
abbrev pub WritesAnswer : Question → Status → List ℕ → List ℕ → List ℕ → Output → Output → Type 0
WritesAnswer asked status bytes series result old new =
    OfSpelled bytes series (λ b s. LeavesAnswer asked b s result status old new)

-- What a command is held to. `known` gives the bytes under each name, as far as they are known; `read` and `write` say
-- that the shelf's and out's count of faults rose.
pub record Row : Type 1 where
  -- the files that were asked for at an ending, and its cause
  pub asks : Ending → AskedCounts → AskedCounts → Type 0
  pub cause : Ending → KnownFiles → Type 0 → Type 0 → Type 0
  -- how it answers where neither failed: if the bytes that are known of its files are accepted, it is done or says what
  -- is so, unless memory ran out
  pub completes : Status → KnownFiles → Type 0 → Type 0 → Type 0
  -- the statuses that may leave bytes on out, and these bytes
  pub may : Status → Type 0
  pub writes : Status → KnownFiles → Output → Output → WorkDone → WorkDone → Type 0
  -- the statuses with which nothing is solved, and how much is solved at most
  pub rests : Status → Type 0
  pub work : KnownFiles → WorkDone → WorkDone → Type 0

-- this is left on out, by the basin and the series that the bytes of a command's files spell
abbrev pub WritesOf : KnownFiles → Files → Status → (Basin → Series → Type 0) → Type 0
WritesOf known files status P = OfBoth known files (λ bytes series. MayWrite status → OfSpelled bytes series P)

-- this is solved, by the basin that they spell
abbrev pub WorkOf : KnownFiles → Files → (Basin → Type 0) → Type 0
WorkOf known files P = IfSome (known files.basin) (λ bytes. (basin : Basin) → Spells bytes basin → P basin)

-- The row of each command, and of words that are none. A run, a list of calls, a report, a trial and an account take
-- memory before their first month, the others also later.
abbrev pub row : Option Command → Row
row None = record {
  asks = λ how old new. (name : List ℕ) → new name ≡ old name;
  cause = λ how known read write. how ≡ ending.Usage;
  completes = λ status known read write. ⊤;
  may = MayWrite;
  writes = λ status known old new before after. ⊤;
  rests = IsRefusal;
  work = λ known before now. now ≡ before;
}
row (Some (run text files)) = record {
  asks = AskUpTo (inputs_to files);
  cause = HasSolvingCause files;
  completes = λ status known read write. (read → ⊥) → (write → ⊥) → CompletesAfter known files (λ _ _. IsDone status);
  may = MayWrite;
  writes = λ status known old new before after.
      WritesOf known files status (λ b s. LeavesText text b s status old new before after);
  rests = IsStopped;
  work = λ known before now. WorkOf known files (λ b. SolvesRun b before now);
}
row (Some (check asked files result)) = record {
  asks = AskUpTo (inputs_and files result);
  cause = HasCheckingCause asked files result;
  completes = λ status known read write. (read → ⊥) → (write → ⊥) → CompletesAfter known files (λ bytes series.
      IfSome (known result) (λ text. IsJudged status (IsYes asked bytes series text)));
  may = MayWrite;
  writes = λ status known old new before after. OfBoth known files (λ bytes series. IfSome (known result) (λ text.
      MayWrite status → WritesAnswer asked status bytes series text old new));
  rests = IsRefusal;
  work = λ known before now. now ≡ before;
}
row (Some (trial number size)) = record {
  asks = AskUpTo (λ file. []);
  cause = λ how known read write. HasTrialCause how write;
  completes = λ status known read write. (write → ⊥) → IsDone status;
  may = MayWrite;
  writes = λ status known old new before after. MayWrite status → LeavesTrial number size status old new;
  rests = IsStopped;
  work = λ known before now. SolvesRun (generated number size) before now;
}
row (Some (compare files second)) = record {
  asks = AskUpTo (pair_to files second);
  cause = HasComparingCause files second;
  completes = λ status known read write. (read → ⊥) → (write → ⊥) → ComparesAfter known files second status;
  may = MayWrite;
  writes = λ status known old new before after. ComparisonWrites known files second status old new;
  rests = IsRefusal;
  work = λ known before now. ComparisonWork known files second before now;
}
row (Some (why asked files month name)) = record {
  asks = AskUpTo (inputs_to files);
  cause = HasExplainingCause files month name;
  completes = λ status known read write. (read → ⊥) → (write → ⊥) → CompletesAfter known files (λ bytes series.
      IsAsked month name bytes → IsJudged status (IsShortIn month name bytes series));
  may = MayWrite;
  writes = λ status known old new before after.
      WritesOf known files status (λ b s. IsAnswered asked b s month name status old new);
  rests = IsStopped;
  work = λ known before now. WorkOf known files (λ b. WorkUpTo b month before now);
}
row (Some (ensemble files)) = record {
  asks = AskUpTo (inputs_to files);
  cause = HasEnsembleCause files;
  completes = λ status known read write. (read → ⊥) → (write → ⊥) →
      CompletesAfter known files (λ bytes _. IsOfYears bytes → IsDone status);
  may = MayWrite;
  writes = λ status known old new before after.
      WritesOf known files status (λ b s. LeavesTraces b s status old new);
  rests = IsRefusal;
  work = λ known before now. WorkOf known files (λ b. Solves (years_of b * b.months) b before now);
}
row (Some (edit files script)) = record {
  asks = AskUpTo (inputs_and files script);
  cause = HasEditingCause files script;
  completes = λ status known read write. (read → ⊥) → (write → ⊥) → EditsAfter known files script status;
  may = MayShow;
  writes = λ status known old new before after. EditWrites known files script status old new;
  rests = IsRefusal;
  work = λ known before now. EditWork known files script before now;
}
row (Some (upgrade basin)) = record {
  asks = AskUpTo (λ file. basin ∷ []);
  cause = HasUpgradingCause basin;
  completes = λ status known read write. (read → ⊥) → (write → ⊥) → UpgradesAfter known basin status;
  may = MayWrite;
  writes = λ status known old new before after. UpgradeWrites known basin status old new;
  rests = IsRefusal;
  work = λ known before now. now ≡ before;
}

-- a prefix of the line is appended, and all of it unless the count of faults rose
pub record WritesErrLine (old new : Output) (before now : ℕ) (line : List ℕ) : Type 0 where
  pub count : ℕ
  pub within : count ≤ length line
  pub appended : Extends old new (take count line)
  pub cut : count < length line → Rose before now

-- the status is that of an ending that has its cause. Where it is at a file, that one was asked for and none after it.
-- Err got the ending's line, or a prefix of it
pub record Ends (command : Option Command) (status : Status) (known : KnownFiles) (read write : Type 0)
    (asked_old asked_new : AskedCounts) (err_old err_new : Output) (err_before err_now : ℕ) : Type 0 where
  pub how : Ending
  pub status_is : status ≡ status_of how
  pub cause : (row command).cause how known read write
  pub asked : (row command).asks how asked_old asked_new
  pub writes_line : WritesErrLine err_old err_new err_before err_now (line_of how)

-- the statuses that leave err alone
abbrev pub IsQuiet : Status → Type 0
IsQuiet Done = ⊤
IsQuiet No = ⊤
IsQuiet status = ⊥
