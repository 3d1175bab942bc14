-- After the files of a run, a list of calls, a report and an ensemble.
use Rattle.std.proofs.lemmas.Option.{IfSome_then}
use Rattle.std.specs.Prelude.{IfSome}
use Rattle.index_seq.specs.Traces.{HasWholeYears}
use Rattle.water_model.specs.Valid.{IsSeriesOf}
use Rattle.water_model.specs.declared.types.Basin.{Basin}
use Rattle.water_model.specs.declared.types.Series.{Series}
use Rattle.basin_cli.specs.declared.ending.Ending.{Ending}
use Rattle.basin_cli.specs.declared.ending.Ending.TheVariants as ending
use Rattle.basin_cli.specs.Bytes.{KnownFiles}
use Rattle.basin_cli.specs.Command.{Files}
use Rattle.basin_cli.specs.Outcome.{HasEnsembleCause, HasSolvingCause, HasTrialCause, IsOfYears}
use Rattle.basin_cli.specs.Series.{AreLoaded}
use Rattle.basin_cli.proofs.Known.{accepted}

module _ (known : KnownFiles) (files : Files) (b : Basin) (series : Series) (fits : IsSeriesOf b series)
    (loaded : AreLoaded known files b series) where
  -- the cause of how it ends
  pub solving_cause : (how : Ending) (read write : Type 0) → HasTrialCause how write →
      HasSolvingCause files how known read write
  solving_cause ending.Done read write ends = accepted known files b series fits loaded
  solving_cause ending.WriteFault read write ends = (ends, accepted known files b series fits loaded)
  solving_cause ending.OutOfMemory read write ends = tt
  solving_cause other read write ends = absurd ends

  years : HasWholeYears b → IfSome (known files.basin) IsOfYears
  years whole = IfSome_then (known files.basin) loaded.from_basin
      (λ bytes text. record { basin = b; spelled = text.spelled; holds = whole })

  pub gathering_cause : (how : Ending) (read write : Type 0) → HasWholeYears b → HasTrialCause how write →
      HasEnsembleCause files how known read write
  gathering_cause ending.Done read write whole ends = (years whole, accepted known files b series fits loaded)
  gathering_cause ending.WriteFault read write whole ends =
      (ends, years whole, accepted known files b series fits loaded)
  gathering_cause ending.OutOfMemory read write whole ends = tt
  gathering_cause other read write whole ends = absurd ends
