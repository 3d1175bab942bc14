-- How the reading of a comparison's files ends.
use Rattle.std.proofs.Common.{◌≡◌, refl, sym, subst, ℕ, ◌≤◌, List, length, Option, Some, None, arith}
use Rattle.std.proofs.lemmas.Option.{IfSome_then}
use Rattle.std.specs.Prelude.{IfSome, IsSome}
use Rattle.inflow_file.specs.SeriesFaults.{series_fault}
use Rattle.water_edge.specs.Edge.{Output, Rose}
use Rattle.water_model.specs.declared.types.Basin.{Basin}
use Rattle.water_model.specs.declared.types.Series.{Series}
use Rattle.basin_cli.specs.declared.ending.Ending.{Ending}
use Rattle.basin_cli.specs.declared.ending.Ending.TheVariants as ending
use Rattle.basin_cli.specs.declared.ending.File.TheVariants as file
use Rattle.basin_cli.specs.declared.ending.SecondFinding.TheVariants as of_second
use Rattle.basin_cli.specs.Bytes.{IsGoodSeries, IsSeriesRefusedFor, IsTooLong, KnownFiles, file_limit, known_series}
use Rattle.basin_cli.specs.Command.{Files}
use Rattle.basin_cli.specs.Comparison.{HaveSameMonths, StopsComparing, AfterFirst, AfterBoth}
use Rattle.basin_cli.specs.Comparison.{ComparisonWrites}
use Rattle.basin_cli.specs.Ending.{second_of, status_of}
use Rattle.basin_cli.specs.Out.{MayWrite}
use Rattle.basin_cli.specs.Pairs.{IsOtherRun}
use Rattle.basin_cli.specs.Series.{FileEnds, IsBasinText, IsSeriesText, SeriesEnds}
use Rattle.basin_cli.proofs.Known.{good_second, of_any}

-- of a later shelf the same is known, and a count that rose since then rose since the beginning
same_series : (known later : KnownFiles) (name : Option (List ℕ)) → ((n : List ℕ) → later n ≡ known n) →
    known_series later name ≡ known_series known name
same_series known later None same = refl
same_series known later (Some name) same = same name

-- what was read of a series on a later shelf is so of its known bytes
pub series_known : (known later : KnownFiles) (name : Option (List ℕ)) (text : List ℕ) (b : Basin)
    (series : Series) → ((n : List ℕ) → later n ≡ known n) →
    IfSome (known_series later name) (λ bytes. text ≡ bytes) → IsSeriesText b series text →
    IfSome (known_series known name) (IsSeriesText b series)
series_known known later name text b series same is h =
    subst (λ (o : Option (List ℕ)). IfSome o (IsSeriesText b series)) (same_series known later name same)
    (IfSome_then (known_series later name) is (λ bytes e. subst (IsSeriesText b series) e h))

pub rose_since : (start mid now : ℕ) → start ≤ mid → Rose mid now → Rose start now
rose_since start mid now l rose = omega arith

module _ (files : Files) (second : List ℕ) (known : KnownFiles) (read : Type 0) where
  module _ (b c : Basin) (first_text : IfSome (known files.basin) (IsBasinText b))
      (second_text : IfSome (known second) (IsBasinText c)) where
    both_known : (G : List ℕ → List ℕ → Type 0) →
        ((bytes other : List ℕ) → IsBasinText b bytes → IsBasinText c other → G bytes other) →
        AfterFirst known files second G
    both_known G f =
        IfSome_then (known files.basin) first_text
        (λ bytes is. (is.good, IfSome_then (known second) second_text (λ other also. f bytes other is also)))

    pub other_run : (how : Ending) → IsOtherRun b c how → StopsComparing files second how known read
    other_run how is =
        subst (λ how. StopsComparing files second how known read) (sym is.0)
        (both_known _ (λ bytes other text other_text. (
          other_text.good,
          record {
            first = b;
            second = c;
            first_spelled = text.spelled;
            second_spelled = other_text.spelled;
            holds = is.1;
          },
        )))

    after_both : (Q : List ℕ → List ℕ → List ℕ → Type 0) (S : List ℕ → Type 0) → HaveSameMonths b c →
        IfSome (known_series known files.series) S →
        ((bytes other series : List ℕ) → IsBasinText b bytes → IsBasinText c other → S series → Q bytes other series) →
        AfterBoth known files second Q
    after_both Q S same h f =
        both_known _ (λ bytes other text other_text. (
          good_second bytes other b c same text other_text,
          IfSome_then (known_series known files.series) h (λ series is. f bytes other series text other_text is),
        ))

    -- the same is known of a later shelf
    moved : (later : KnownFiles) (P : List ℕ → Type 0) → ((n : List ℕ) → later n ≡ known n) →
        IfSome (known_series later files.series) P → IfSome (known_series known files.series) P
    moved later P same h = subst (λ o. IfSome o P) (same_series known later files.series same) h

    -- how the reading of the series, or what it is for the first basin or the second, ends a call
    pub table_stops : (later : KnownFiles) (since : Type 0) (how : Ending) → ((n : List ℕ) → later n ≡ known n) →
        (since → read) → HaveSameMonths b c → IsSome files.series →
        FileEnds file.Series (known_series later files.series) since how → StopsComparing files second how known read
    table_stops later since (ending.ReadFault named) same rose months is h =
        subst (λ f. StopsComparing files second (ending.ReadFault f) known read) (sym h.0)
        (rose h.1, is, both_known _ (λ bytes other. good_second bytes other b c months))
    table_stops later since (ending.InputTooLong named) same rose months is h =
        subst (λ f. StopsComparing files second (ending.InputTooLong f) known read) (sym h.0)
        (after_both _ IsTooLong months (moved later IsTooLong same h.1) (λ _ _ _ _ _ long. long))
    table_stops later since ending.OutOfMemory same rose months is h = tt
    table_stops later since how same rose months is h = absurd h

    module _ (later : KnownFiles) (text : List ℕ) (same : (n : List ℕ) → later n ≡ known n)
        (months : HaveSameMonths b c) (is : IfSome (known_series later files.series) (λ bytes. text ≡ bytes))
        (within : length text ≤ file_limit) where
      pub first_stops : (how : Ending) → SeriesEnds b text how → StopsComparing files second how known read
      first_stops (ending.SeriesRefused finding) h =
          after_both _ _ months (moved later _ same is) (λ bytes other series first_is _ e.
          subst (IsSeriesRefusedFor finding bytes) e
          (record { basin = b; spelled = first_is.spelled; within = within; first = h }))
      first_stops ending.OutOfMemory h = tt
      first_stops how h = absurd h

      pub second_stops : (how : Ending) → series_fault b text ≡ None → SeriesEnds c text how →
          StopsComparing files second (second_of how) known read
      second_stops (ending.SeriesRefused finding) sound h =
          after_both _ _ months (moved later _ same is) (λ bytes other series first_is second_is e.
          subst (λ (s : List ℕ). IsGoodSeries bytes s × IsSeriesRefusedFor finding other s) e (
            record { basin = b; spelled = first_is.spelled; within = within; sound = sound },
            record { basin = c; spelled = second_is.spelled; within = within; first = h },
          ))
      second_stops ending.OutOfMemory sound h = tt
      second_stops how sound h = absurd h

-- where a file is refused, nothing may be written
never_writes : (known : KnownFiles) (files : Files) (second : List ℕ) (how : Ending) (read : Type 0) →
    StopsComparing files second how known read → MayWrite (status_of how) → ⊥
never_writes known files second (ending.BasinRefused finding) read h may = may
never_writes known files second (ending.SeriesRefused finding) read h may = may
never_writes known files second (ending.SecondRefused (of_second.Basin finding)) read h may = may
never_writes known files second (ending.SecondRefused of_second.OtherRun) read h may = may
never_writes known files second (ending.SecondRefused (of_second.Series finding)) read h may = may
never_writes known files second (ending.ReadFault file) read h may = may
never_writes known files second (ending.InputTooLong file) read h may = may
never_writes known files second ending.OutOfMemory read h may = may
never_writes known files second how read h may = h

pub refused_writes : (known : KnownFiles) (files : Files) (second : List ℕ) (how : Ending) (read : Type 0)
    (old new : Output) →
    StopsComparing files second how known read → ComparisonWrites known files second (status_of how) old new
refused_writes known files second how read old new h =
    of_any (known files.basin) (λ _. of_any (known second) (λ _. of_any (known_series known files.series)
    (λ _ may. absurd (never_writes known files second how read h may))))
