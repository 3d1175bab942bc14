-- From the cause of an ending: where nothing is refused and nothing fails, the call is done.
use Rattle.std.proofs.Common.{◌≡◌, inl, inr, refl, ℕ, List, [], Option, Some, None, arith, sym, ◌∙◌, ap, subst}
use Rattle.std.proofs.lemmas.Option.{IfSome_then}
use Rattle.std.specs.Prelude.{IfSome, IsTrue, Bool, true, false}
use Rattle.std.specs.Option.{option_and_then}
use Rattle.water_edge.specs.Edge.{Output}
use Rattle.water_edge.proofs.Outputs.{Extends-nil}
use Rattle.edit_script.specs.declared.refused.ScriptFault.TheVariants as script
use Rattle.index_seq.specs.Traces.{HasWholeYears}
use Rattle.inflow_file.specs.SeriesFaults.{series_fault}
use Rattle.water_model.specs.declared.types.Basin.{Basin}
use Rattle.water_text.specs.declared.month.Month.{Month}
use Rattle.basin_tree.specs.declared.walk.Finding.{Finding}
use Rattle.basin_cli.specs.declared.status.Status.{Status}
use Rattle.basin_cli.specs.declared.status.Status.TheVariants as its
use Rattle.basin_cli.specs.declared.ending.Ending.{Ending}
use Rattle.basin_cli.specs.declared.ending.Ending.TheVariants as ending
use Rattle.basin_cli.specs.declared.ending.File.TheVariants as file
use Rattle.basin_cli.specs.declared.ending.SeriesFinding.{SeriesFinding}
use Rattle.basin_cli.specs.declared.ending.SecondFinding.{SecondFinding}
use Rattle.basin_cli.specs.declared.ending.SecondFinding.TheVariants as of_second
use Rattle.basin_cli.specs.declared.checking.Question.{Question}
use Rattle.basin_cli.specs.Bytes.{IsGoodBasin, IsGoodSeries, IsRefusedFor, IsSeriesRefusedFor, IsTooLong, KnownFiles}
use Rattle.basin_cli.specs.Bytes.{known_series}
use Rattle.basin_cli.specs.Command.{Command, Files, run, check, trial, compare, why, ensemble, edit, upgrade}
use Rattle.basin_cli.specs.Comparison.{AfterBoth, AfterFirst, AreOfOneRun, AreOfOtherRuns, ComparesAfter}
use Rattle.basin_cli.specs.Comparison.{HasComparingCause, HaveSameMonths, IsComparedAs, IsGoodForBoth, IsGoodSecond}
use Rattle.basin_cli.specs.Comparison.{SomebodyIsInjured}
use Rattle.basin_cli.specs.Edited.{EditsAfter, HasEditingCause, IsGoodScript}
use Rattle.basin_cli.specs.Ending.{line_of, status_of, status_of_second, finding_of}
use Rattle.basin_cli.specs.Explained.{HasMonth, HasRight}
use Rattle.basin_cli.specs.Outcome.{HasCheckingCause, HasEnsembleCause, HasExplainingCause, HasSolvingCause}
use Rattle.basin_cli.specs.Outcome.{HasTrialCause, IsAsked, IsOfYears, IsOutsideRun, IsPartYear, IsQuiet, IsShortIn}
use Rattle.basin_cli.specs.Outcome.{IsUnknownRight, IsYes, WritesErrLine, row}
use Rattle.basin_cli.specs.Reading.{AfterBasin, CompletesAfter, IsDone, IsJudged, StopsReading}
use Rattle.basin_cli.specs.Upgrading.{HasUpgradingCause, UpgradesAfter}
use Rattle.basin_cli.proofs.Edited.{refused_not_good}
use Rattle.basin_cli.proofs.Known.{of_any}
use Rattle.basin_cli.proofs.OneSeries.{one_basin}

-- good bytes are neither refused nor too long
no_refusal : (finding : Finding) (bytes : List ℕ) → IsRefusedFor finding bytes → IsGoodBasin bytes → ⊥
no_refusal finding bytes is good = let first = rw good.sound at is.first in cc

not_long : (bytes : List ℕ) → IsTooLong bytes → IsGoodBasin bytes → ⊥
not_long bytes is good = omega (arith, good.within, is.beyond)

no_series_refusal : (finding : SeriesFinding) (bytes s : List ℕ) → IsSeriesRefusedFor finding bytes s →
    IsGoodSeries bytes s → ⊥
no_series_refusal finding bytes s is good =
    let same : good.basin ≡ is.basin = one_basin bytes good.basin is.basin good.spelled is.spelled in
    let sound : series_fault is.basin s ≡ None = subst (λ b. series_fault b s ≡ None) same good.sound in
    let first : None ≡ Some finding = sym (ap (λ o. option_and_then (finding_of is.basin) o) sound) ∙ is.first in
    cc

not_long_series : (bytes s : List ℕ) → IsTooLong s → IsGoodSeries bytes s → ⊥
not_long_series bytes s is good = omega (arith, good.within, is.beyond)

-- two basins are of one run or of other runs
one_or_other : (bytes other : List ℕ) → AreOfOtherRuns bytes other → AreOfOneRun bytes other → ⊥
one_or_other bytes other is one =
    let same : one.first ≡ is.first = one_basin bytes one.first is.first one.first_spelled is.first_spelled in
    let same_second : one.second ≡ is.second =
    one_basin other one.second is.second one.second_spelled is.second_spelled in
    is.holds
    (subst (λ (c : Basin). HaveSameMonths is.first c) same_second
    (subst (λ (b : Basin). HaveSameMonths b one.second) same one.holds))

-- a run that hasn't the month, or a basin that hasn't the right, is not asked for them
outside : (month : Month) (name bytes : List ℕ) → IsOutsideRun month bytes → IsAsked month name bytes → ⊥
outside month name bytes is asked =
    is.holds (subst (λ (b : Basin). HasMonth b month)
    (one_basin bytes asked.basin is.basin asked.spelled is.spelled) asked.holds.0)

unknown : (month : Month) (name bytes : List ℕ) → IsUnknownRight month name bytes → IsAsked month name bytes → ⊥
unknown month name bytes is asked =
    is.holds.1 (subst (λ (b : Basin). HasRight b name)
    (one_basin bytes asked.basin is.basin asked.spelled is.spelled) asked.holds.1)

part : (bytes : List ℕ) → IsPartYear bytes → IsOfYears bytes → ⊥
part bytes is years =
    is.part (subst HasWholeYears (one_basin bytes years.basin is.basin years.spelled is.spelled) years.holds)

trying : (how : Ending) (write : Type 0) → HasTrialCause how write → (write → ⊥) → IsDone (status_of how)
trying ending.Done write h no_write = inl refl
trying ending.WriteFault write h no_write = absurd (no_write h)
trying ending.OutOfMemory write h no_write = inr refl
trying other write h no_write = absurd h

-- where neither the shelf nor out failed
module _ (known : KnownFiles) (read write : Type 0) (no_read : read → ⊥) (no_write : write → ⊥) where
  -- what holds of all bytes of two files, and what is shown by what holds of the known ones
  always : (files : Files) {P : List ℕ → List ℕ → Type 0} → ((bytes s : List ℕ) → P bytes s) →
      CompletesAfter known files P
  always files h =
      of_any (known files.basin) (λ bytes _. of_any (known_series known files.series) (λ s _. h bytes s))

  after : (files : Files) {P Q : List ℕ → List ℕ → Type 0} → AfterBasin known files P →
      ((bytes s : List ℕ) → P bytes s → IsGoodSeries bytes s → Q bytes s) → CompletesAfter known files Q
  after files h shows =
      IfSome_then (known files.basin) h (λ bytes is _. IfSome_then (known_series known files.series) is.1 (shows bytes))

  -- where reading stopped, something was refused, or memory ran out
  stopped : (files : Files) (P : Status → List ℕ → List ℕ → Type 0) → ((bytes s : List ℕ) → P its.OutOfMemory bytes s) →
      (how : Ending) → StopsReading files how known read → CompletesAfter known files (P (status_of how))
  stopped files P memory (ending.BasinRefused finding) h =
      IfSome_then (known files.basin) h (λ bytes is good. absurd (no_refusal finding bytes is good))
  stopped files P memory (ending.SeriesRefused finding) h =
      after files h (λ bytes s is good. absurd (no_series_refusal finding bytes s is good))
  stopped files P memory (ending.ReadFault file.Basin) h = absurd (no_read h)
  stopped files P memory (ending.ReadFault file.Series) h = absurd (no_read h.0)
  stopped files P memory (ending.InputTooLong file.Basin) h =
      IfSome_then (known files.basin) h (λ bytes is good. absurd (not_long bytes is good))
  stopped files P memory (ending.InputTooLong file.Series) h =
      after files h (λ bytes s is good. absurd (not_long_series bytes s is good))
  stopped files P memory ending.OutOfMemory h = always files memory
  stopped files P memory other h = absurd h

  solving : (files : Files) (how : Ending) → HasSolvingCause files how known read write →
      CompletesAfter known files (λ _ _. IsDone (status_of how))
  solving files ending.Done h = always files (λ _ _. inl refl)
  solving files ending.WriteFault h = absurd (no_write h.0)
  solving files other h = stopped files (λ status _ _. IsDone status) (λ _ _. inr refl) other h

  checking : (asked : Question) (files : Files) (result : List ℕ) (how : Ending) →
      HasCheckingCause asked files result how known read write →
      CompletesAfter known files (λ bytes s. IfSome (known result) (λ text.
      IsJudged (status_of how) (IsYes asked bytes s text)))
  checking asked files result ending.Done h =
      after files h (λ bytes s is _. IfSome_then (known result) is.1 (λ text yes. inr (inl (refl, yes))))
  checking asked files result (ending.Refuted refuted) h =
      after files h (λ bytes s is _. IfSome_then (known result) is.1 (λ text no. inr (inr (refl, no.no_text))))
  checking asked files result ending.WriteFault h = absurd (no_write h.0)
  checking asked files result (ending.ReadFault file.Result) h = absurd (no_read h.0)
  checking asked files result other h =
      stopped files (λ status bytes s. IfSome (known result) (λ text. IsJudged status (IsYes asked bytes s text)))
      (λ _ _. of_any (known result) (λ _. inl refl)) other h

  explaining : (files : Files) (month : Month) (name : List ℕ) (how : Ending) →
      HasExplainingCause files month name how known read write →
      CompletesAfter known files (λ bytes s. IsAsked month name bytes →
      IsJudged (status_of how) (IsShortIn month name bytes s))
  explaining files month name ending.Done h = after files h (λ _ _ is _ _. inr (inl (refl, is.1)))
  explaining files month name ending.Met h = after files h (λ _ _ is _ _. inr (inr (refl, is.1.1)))
  explaining files month name ending.WriteFault h = absurd (no_write h.0)
  explaining files month name (ending.ScriptRefused script.OutsideRun line) h =
      after files h.1 (λ bytes _ is _ asked. absurd (outside month name bytes is.1 asked))
  explaining files month name (ending.ScriptRefused script.NoSuchName line) h =
      after files h.1 (λ bytes _ is _ asked. absurd (unknown month name bytes is.1 asked))
  explaining files month name other h =
      stopped files (λ status bytes s. IsAsked month name bytes → IsJudged status (IsShortIn month name bytes s))
      (λ _ _ _. inl refl) other h

  years_stopped : (files : Files) (how : Ending) → StopsReading files how known read →
      CompletesAfter known files (λ bytes _. IsOfYears bytes → IsDone (status_of how))
  years_stopped files how h =
      stopped files (λ status bytes _. IsOfYears bytes → IsDone status) (λ _ _ _. inr refl) how h

  gathering : (files : Files) (how : Ending) → HasEnsembleCause files how known read write →
      CompletesAfter known files (λ bytes _. IsOfYears bytes → IsDone (status_of how))
  gathering files ending.Done h = always files (λ _ _ _. inl refl)
  gathering files ending.WriteFault h = absurd (no_write h.0)
  gathering files ending.PartYear h = IfSome_then (known files.basin) h (λ bytes is _.
      of_any (known_series known files.series) (λ _ _ years. absurd (part bytes is years)))
  gathering files (ending.SeriesRefused finding) h = years_stopped files (ending.SeriesRefused finding) h.1
  gathering files (ending.ReadFault file.Series) h = absurd (no_read h.1)
  gathering files (ending.InputTooLong file.Series) h = years_stopped files (ending.InputTooLong file.Series) h.1
  gathering files other h = years_stopped files other h

  editing : (files : Files) (script : List ℕ) (how : Ending) → HasEditingCause files script how known read write →
      EditsAfter known files script (status_of how)
  editing files script ending.Done h = always files (λ _ _. of_any (known script) (λ _ _. inl refl))
  editing files script ending.WriteFault h = absurd (no_write h.0)
  editing files script (ending.ScriptRefused fault line) h =
      after files h (λ bytes s is _. IfSome_then (known script) is.1
      (λ text bad good. absurd (refused_not_good bytes s text fault line bad good)))
  editing files script (ending.ReadFault file.Script) h = absurd (no_read h.0)
  editing files script (ending.InputTooLong file.Script) h =
      after files h (λ bytes s is _. IfSome_then (known script) is.1
      (λ text long good. absurd (omega (arith, long.beyond, good.0))))
  editing files script other h =
      stopped files (λ status bytes s. IfSome (known script) (λ text. IsGoodScript bytes s text → IsDone status))
      (λ _ _. of_any (known script) (λ _ _. inr refl)) other h

  upgrading : (name : List ℕ) (how : Ending) → HasUpgradingCause name how known read write →
      UpgradesAfter known name (status_of how)
  upgrading name ending.Done h = of_any (known name) (λ _ _. inl refl)
  upgrading name ending.WriteFault h = absurd (no_write h.0)
  upgrading name (ending.BasinRefused finding) h =
      IfSome_then (known name) h (λ bytes is good. absurd (no_refusal finding bytes is good))
  upgrading name (ending.ReadFault file.Basin) h = absurd (no_read h)
  upgrading name (ending.InputTooLong file.Basin) h =
      IfSome_then (known name) h (λ bytes is good. absurd (not_long bytes is good))
  upgrading name ending.OutOfMemory h = of_any (known name) (λ _ _. inr refl)
  upgrading name other h = absurd h

  -- of a comparison, what a first basin shows, what both show, and what the series shows
  module _ (files : Files) (second : List ℕ) where
    by_basin : (how : Status) (B : List ℕ → Type 0) → ((bytes : List ℕ) → B bytes → IsGoodBasin bytes → ⊥) →
        IfSome (known files.basin) B → ComparesAfter known files second how
    by_basin how B never h = IfSome_then (known files.basin) h (λ bytes is good. absurd (never bytes is good))

    by_second : (how : Status) (G : List ℕ → List ℕ → Type 0) →
        ((bytes other : List ℕ) → G bytes other → IsGoodSecond bytes other → ⊥) → AfterFirst known files second G →
        ComparesAfter known files second how
    by_second how G never h = IfSome_then (known files.basin) h (λ bytes is _.
        IfSome_then (known second) is.1 (λ other has good. absurd (never bytes other has good)))

    by_series : (how : Status) (Q : List ℕ → List ℕ → List ℕ → Type 0) → AfterBoth known files second Q →
        ((bytes other s : List ℕ) → Q bytes other s → IsGoodForBoth bytes other s →
        IsComparedAs how (SomebodyIsInjured bytes other s)) → ComparesAfter known files second how
    by_series how Q h shows = IfSome_then (known files.basin) h (λ bytes is _.
        IfSome_then (known second) is.1 (λ other has _.
        IfSome_then (known_series known files.series) has.1 (shows bytes other)))

    comparing : (how : Ending) → HasComparingCause files second how known read write →
        ComparesAfter known files second (status_of how)
    comparing ending.Done h = by_series its.Done _ h (λ _ _ _ is _. inr (inl (refl, is.1)))
    comparing ending.Injured h = by_series its.No _ h (λ _ _ _ is _. inr (inr (refl, is.1)))
    comparing ending.WriteFault h = absurd (no_write h.0)
    comparing (ending.BasinRefused finding) h =
        by_basin its.BasinRefused (IsRefusedFor finding) (no_refusal finding) h
    comparing (ending.SecondRefused (of_second.Basin finding)) h =
        by_second its.BasinRefused _ (λ _ other is good. no_refusal finding other is good.good) h
    comparing (ending.SecondRefused of_second.OtherRun) h =
        by_second its.BasinRefused _ (λ bytes other is good. one_or_other bytes other is.1 good.one_run) h
    comparing (ending.SeriesRefused finding) h =
        by_series its.SeriesRefused _ h
        (λ bytes _ s is good. absurd (no_series_refusal finding bytes s is good.first))
    comparing (ending.SecondRefused (of_second.Series finding)) h =
        by_series its.SeriesRefused _ h
        (λ _ other s is good. absurd (no_series_refusal finding other s is.1 good.second))
    comparing (ending.ReadFault file.Basin) h = absurd (no_read h)
    comparing (ending.ReadFault file.SecondBasin) h = absurd (no_read h.0)
    comparing (ending.ReadFault file.Series) h = absurd (no_read h.0)
    comparing (ending.InputTooLong file.Basin) h = by_basin its.InputTooLong IsTooLong not_long h
    comparing (ending.InputTooLong file.SecondBasin) h =
        by_second its.InputTooLong _ (λ _ other is good. not_long other is good.good) h
    comparing (ending.InputTooLong file.Series) h =
        by_series its.InputTooLong _ h (λ bytes _ s is good. absurd (not_long_series bytes s is good.first))
    comparing ending.OutOfMemory h = of_any (known files.basin) (λ _ _. of_any (known second) (λ _ _.
        of_any (known_series known files.series) (λ _ _. inl refl)))
    comparing other h = absurd h

pub completes : (command : Option Command) (how : Ending) (known : KnownFiles) (read write : Type 0) →
    (row command).cause how known read write → (row command).completes (status_of how) known read write
completes None how known read write h = tt
completes (Some (run text files)) how known read write h =
    λ no_read no_write. solving known read write no_read no_write files how h
completes (Some (check asked files result)) how known read write h =
    λ no_read no_write. checking known read write no_read no_write asked files result how h
completes (Some (trial number size)) how known read write h = trying how write h
completes (Some (compare files second)) how known read write h =
    λ no_read no_write. comparing known read write no_read no_write files second how h
completes (Some (why asked files month name)) how known read write h =
    λ no_read no_write. explaining known read write no_read no_write files month name how h
completes (Some (ensemble files)) how known read write h =
    λ no_read no_write. gathering known read write no_read no_write files how h
completes (Some (edit files script)) how known read write h =
    λ no_read no_write. editing known read write no_read no_write files script how h
completes (Some (upgrade name)) how known read write h =
    λ no_read no_write. upgrading known read write no_read no_write name how h

-- nothing was put to err
tells_nothing : (old : Output) (before : ℕ) → WritesErrLine old old before before []
tells_nothing old before =
    record { count = 0; within = omega arith; appended = Extends-nil old; cut = λ l. absurd (omega (arith, l)) }

-- a refusal of the second basin has a line
second_not_quiet : (finding : SecondFinding) → IsQuiet (status_of_second finding) → ⊥
second_not_quiet (of_second.Basin finding) q = q
second_not_quiet of_second.OtherRun q = q
second_not_quiet (of_second.Series finding) q = q

-- a quiet ending has no line
pub quiet : (how : Ending) (old : Output) (before : ℕ) → ((IsQuiet (status_of how) → ⊥) → ⊥) →
    WritesErrLine old old before before (line_of how)
unfolding line_of
quiet ending.Done old before h = tells_nothing old before
quiet (ending.Refuted refuted) old before h = tells_nothing old before
quiet ending.Injured old before h = tells_nothing old before
quiet ending.Met old before h = tells_nothing old before
quiet (ending.SecondRefused finding) old before h = absurd (h (second_not_quiet finding))
quiet other old before h = absurd (h (λ q. q))

pub not_known : {known : Bool} → known ≡ false → IsTrue known → ⊥
not_known e h = let clash : false ≡ true = sym e ∙ h in cc
