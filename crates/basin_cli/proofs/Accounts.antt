-- After the files of `why`: the cause of how it ends.
use Rattle.std.proofs.Common.{◌≡◌, ℕ, ◌≤◌, sym, ◌∙◌, subst, arith, List, [], ◌∷◌, length-append}
use Rattle.std.specs.Prelude.{slice_index}
use Rattle.basin_file.specs.BasinFaults.{Spells}
use Rattle.edit_script.specs.declared.refused.ScriptFault.TheVariants as script
use Rattle.inflow_file.specs.SeriesFaults.{SpellsSeries}
use Rattle.water_text.specs.declared.month.Month.{Month}
use Rattle.water_model.specs.Valid.{IsValidBasin, IsSeriesOf}
use Rattle.water_model.specs.declared.types.Basin.{Basin}
use Rattle.water_model.specs.declared.types.Series.{Series}
use Rattle.water_model.specs.declared.types.MonthRecord.{MonthRecord}
use Rattle.basin_cli.specs.declared.ending.Ending.{Ending}
use Rattle.basin_cli.specs.declared.ending.Ending.TheVariants as ending
use Rattle.basin_cli.specs.Actions.{EndsAsking}
use Rattle.basin_cli.specs.Command.{Files}
use Rattle.basin_cli.specs.Explained.{HasMonth, HasRight, IsAbout}
use Rattle.basin_cli.specs.Bytes.{AreSpelled, KnownFiles}
use Rattle.basin_cli.specs.Outcome.{HasExplainingCause, IsAsked, IsShortIn}
use Rattle.basin_cli.specs.Series.{AreLoaded}
use Rattle.water_model.proofs.Histories.{last_follows}
use Rattle.basin_cli.proofs.Explained.{one_answer}
use Rattle.basin_cli.proofs.Known.{after}
use Rattle.basin_cli.proofs.OneSeries.{one_basin, one_series, same_partial}

-- After the files.

-- the run has the month of a record
month_of : (b : Basin) (series : Series) (month : Month) (name : List ℕ) (right : ℕ) (m : MonthRecord) →
    IsAbout b series month name right m → HasMonth b month
month_of b series month name right m about =
    let is = about.of_month in
    let follows = last_follows b series is.before m is.partial in (
      m.index,
      record {
        within = omega (arith, follows.after.index, is.partial.within, length-append is.before (m ∷ []));
        is = sym follows.after.month ∙ is.is;
      },
    )

is_asked : (month : Month) (name bytes : List ℕ) (b : Basin) → Spells bytes b → HasMonth b month → HasRight b name →
    IsAsked month name bytes
is_asked month name bytes b spelled has_month has_right =
    record { basin = b; spelled = spelled; holds = (has_month, has_right) }

-- a right that is met in one run of what bytes spell is short in none
not_short : (month : Month) (name bytes s : List ℕ) (b : Basin) (series : Series) (right : ℕ) (m : MonthRecord) →
    IsValidBasin b → AreSpelled bytes s b series →
    IsAbout b series month name right m → slice_index m.want right ≤ slice_index m.delivered right →
    IsShortIn month name bytes s → ⊥
not_short month name bytes s b series right m valid spelled about met is =
    let same : is.basin ≡ b = one_basin bytes is.basin b is.spelled.basin_spelled spelled.basin_spelled in
    let at = is.holds.0 in
    let last = is.holds.1 in
    let moved = subst (λ c. IsAbout c is.series month name at last) same is.holds.2 in
    let known_series = subst (λ c. SpellsSeries c s is.series) same is.spelled.series_spelled in
    let other = one_series b s is.series series known_series spelled.series_spelled in
    let along : IsAbout b series month name at last = record {
      named = moved.named;
      of_month = record {
        before = moved.of_month.before;
        partial = same_partial b is.series series _ other moved.of_month.partial;
        reaches = moved.of_month.reaches;
        is = moved.of_month.is;
      };
    } in
    let short = one_answer b series month name at right last m valid along about is.holds.3 in
    omega (arith, short, met)

module _ (known : KnownFiles) (files : Files) (b : Basin) (series : Series) (fits : IsSeriesOf b series)
    (loaded : AreLoaded known files b series) (month : Month) (name : List ℕ) where
  pub asking_cause : (how : Ending) (read write : Type 0) → IsValidBasin b → EndsAsking b series month name how write →
      HasExplainingCause files month name how known read write
  asking_cause ending.Done read write valid ends = after known files b series fits loaded _
      (λ bytes s spelled. record { basin = b; series = series; spelled = spelled; holds = ends })
  asking_cause ending.Met read write valid ends = after known files b series fits loaded _ (λ bytes s spelled. (
    is_asked month name bytes b spelled.basin_spelled (month_of b series month name ends.0 ends.1 ends.2)
        (ends.0, ends.2.named),
    not_short month name bytes s b series ends.0 ends.1 valid spelled ends.2 ends.3,
  ))
  asking_cause ending.WriteFault read write valid ends = (
    ends.0,
    after known files b series fits loaded _
        (λ bytes s spelled. is_asked month name bytes b spelled.basin_spelled ends.1 ends.2),
  )
  asking_cause (ending.ScriptRefused script.OutsideRun line) read write valid ends = (
    ends.0,
    after known files b series fits loaded _
        (λ bytes s spelled. record { basin = b; spelled = spelled.basin_spelled; holds = ends.1 }),
  )
  asking_cause (ending.ScriptRefused script.NoSuchName line) read write valid ends = (
    ends.0,
    after known files b series fits loaded _ (λ bytes s spelled.
        record { basin = b; spelled = spelled.basin_spelled; holds = (ends.1, ends.2) }),
  )
  asking_cause ending.OutOfMemory read write valid ends = tt
  asking_cause other read write valid ends = absurd ends
