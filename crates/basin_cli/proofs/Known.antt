-- What holds of the bytes that were read holds of those that are known.
use Rattle.std.proofs.Common.{◌≡◌, ℕ, subst, List, Option, Some, None}
use Rattle.std.proofs.lemmas.Option.{IfSome_then}
use Rattle.std.specs.Prelude.{IfSome}
use Rattle.basin_file.specs.BasinFaults.{Spells}
use Rattle.basin_file.proofs.Faultless.{faultless_files_are_valid}
use Rattle.inflow_file.specs.SeriesFaults.{SpellsSeries}
use Rattle.water_model.specs.History.{IsHistory}
use Rattle.water_model.specs.Valid.{IsValidBasin, IsSeriesOf}
use Rattle.water_model.specs.declared.types.Basin.{Basin}
use Rattle.water_model.specs.declared.types.Series.{Series}
use Rattle.water_model.specs.declared.types.MonthRecord.{MonthRecord}
use Rattle.basin_cli.specs.Bytes.{AreSpelled, IsGoodSeries, KnownFiles, OfSpelled, known_series}
use Rattle.basin_cli.specs.Command.{Files}
use Rattle.basin_cli.specs.Comparison.{HaveSameMonths, IsGoodSecond}
use Rattle.basin_cli.specs.Reading.{AfterBasin, AreAccepted, OfBoth}
use Rattle.basin_cli.specs.Series.{AreLoaded, IsBasinText, IsSeriesText}
use Rattle.basin_cli.proofs.OneSeries.{one_basin, one_series, same_history}

-- what holds of all bytes
pub of_any : {X : Type 0} (known : Option X) {P : X → Type 0} → ((bytes : X) → P bytes) → IfSome known P
of_any None h = tt
of_any (Some bytes) h = h bytes

-- and two facts of the known ones together
pub both_known : {X : Type 0} (known : Option X) (P Q : X → Type 0) → IfSome known P → IfSome known Q →
    IfSome known (λ bytes. P bytes × Q bytes)
both_known None P Q one two = tt
both_known (Some bytes) P Q one two = (one, two)

-- what a file without a fault spells is valid
pub spelled_by : (bytes s : List ℕ) (b : Basin) (series : Series) → IsSeriesOf b series → IsBasinText b bytes →
    IsSeriesText b series s →
    AreSpelled bytes s b series
spelled_by bytes s b series fits basin_text series_text = record {
  basin_spelled = basin_text.spelled;
  series_spelled = series_text.spelled;
  valid = valid (faultless_files_are_valid bytes basin_text.good.sound);
  fits = fits;
}
  where
    valid : ((c : Basin) × Spells bytes c × IsValidBasin c) → IsValidBasin b
    valid found = subst IsValidBasin (one_basin bytes found.0 b found.1 basin_text.spelled) found.2

pub good_series : (bytes s : List ℕ) (b : Basin) (series : Series) → IsBasinText b bytes → IsSeriesText b series s →
    IsGoodSeries bytes s
good_series bytes s b series basin_text series_text =
    record { basin = b; spelled = basin_text.spelled; within = series_text.within; sound = series_text.sound }

pub good_second : (bytes other : List ℕ) (b c : Basin) → HaveSameMonths b c → IsBasinText b bytes →
    IsBasinText c other → IsGoodSecond bytes other
good_second bytes other b c same text other_text = record {
  good = other_text.good;
  one_run = record {
    first = b;
    second = c;
    first_spelled = text.spelled;
    second_spelled = other_text.spelled;
    holds = same;
  };
}

-- a history of what bytes spell is one of any basin and series that they spell
pub spelled_history : (bytes s : List ℕ) (b c : Basin) (series other : Series) (records : List MonthRecord) →
    AreSpelled bytes s b series → AreSpelled bytes s c other → IsHistory c other records → IsHistory b series records
spelled_history bytes s b c series other records spelled is history =
    let same : c ≡ b = one_basin bytes c b is.basin_spelled spelled.basin_spelled in
    same_history b other series records
    (one_series b s other series (subst (λ (x : Basin). SpellsSeries x s other) same is.series_spelled)
    spelled.series_spelled)
    (subst (λ (x : Basin). IsHistory x other records) same history)

-- what is so of a basin that was read is so of each that the known bytes spell
pub of_basin : (known : Option (List ℕ)) (b : Basin) (P : Basin → Type 0) → IfSome known (IsBasinText b) → P b →
    IfSome known (λ bytes. (c : Basin) → Spells bytes c → P c)
of_basin known b P text h =
    IfSome_then known text (λ bytes is c spelled. subst P (one_basin bytes b c is.spelled spelled) h)

-- a basin and its series that were read
module _ (known : KnownFiles) (files : Files) (b : Basin) (series : Series) (fits : IsSeriesOf b series)
    (loaded : AreLoaded known files b series) where
  -- what holds of all bytes that spell them
  pub of_both : (P : List ℕ → List ℕ → Type 0) → ((bytes s : List ℕ) → AreSpelled bytes s b series → P bytes s) →
      OfBoth known files P
  of_both P holds = IfSome_then (known files.basin) loaded.from_basin (λ bytes text.
      IfSome_then (known_series known files.series) loaded.from_series (λ s table.
      holds bytes s (spelled_by bytes s b series fits text table)))

  -- and what is so of them both, where it is allowed
  pub writes : (P : Basin → Series → Type 0) (may : Type 0) → (may → P b series) →
      OfBoth known files (λ bytes s. may → OfSpelled bytes s P)
  writes P may h = of_both _
      (λ bytes s spelled allowed. record { basin = b; series = series; spelled = spelled; holds = h allowed })

  -- and both are good
  pub after : (P : List ℕ → List ℕ → Type 0) → ((bytes s : List ℕ) → AreSpelled bytes s b series → P bytes s) →
      AfterBasin known files (λ bytes s. IsGoodSeries bytes s × P bytes s)
  after P holds = IfSome_then (known files.basin) loaded.from_basin (λ bytes text. (
    text.good,
    IfSome_then (known_series known files.series) loaded.from_series (λ s table.
        (good_series bytes s b series text table, holds bytes s (spelled_by bytes s b series fits text table))),
  ))

  pub accepted : AreAccepted known files
  accepted = IfSome_then (known files.basin) loaded.from_basin (λ bytes text. (
    text.good,
    IfSome_then (known_series known files.series) loaded.from_series
        (λ s table. good_series bytes s b series text table),
  ))
