-- Whether somebody is injured, as the list of injuries says.
use Rattle.std.proofs.Common.{◌≡◌, ℕ, ◌≤◌, suc, refl, sym, ◌∙◌, subst, arith, List, [], ◌∷◌, length}
use Rattle.std.proofs.lemmas.Bool.Decides.{nat_tests}
use Rattle.std.proofs.lemmas.Option.{IfSome_then}
use Rattle.std.specs.Prelude.{Contains, ◌==◌, Bool, true, false, if◌then◌else◌}
use Rattle.water_edge.specs.Edge.{Output}
use Rattle.water_model.specs.History.{IsHistory}
use Rattle.water_model.specs.Valid.{IsValidBasin}
use Rattle.water_model.specs.declared.types.Basin.{Basin}
use Rattle.water_model.specs.declared.types.Series.{Series}
use Rattle.water_model.specs.declared.types.MonthRecord.{MonthRecord}
use Rattle.month_fold.specs.Works.{SolvesBoth, WorkDone}
use Rattle.injury.specs.Injuries.{IsInjury, injuries}
use Rattle.injury.specs.declared.injuries.Injury.{Injury}
use Rattle.injury.proofs.Listed.{injuries_are_all_listed}
use Rattle.injury.proofs.OneText.{one_list}
use Rattle.basin_cli.specs.declared.ending.Ending.{Ending}
use Rattle.basin_cli.specs.declared.ending.Ending.TheVariants as ending
use Rattle.basin_cli.specs.declared.pairs.BasinPair.{BasinPair}
use Rattle.basin_cli.specs.Bytes.{AreSpelled, KnownFiles, known_series}
use Rattle.basin_cli.specs.Command.{Files}
use Rattle.basin_cli.specs.Compared.{Compares, IsComparedEnd, ending_with}
use Rattle.basin_cli.specs.Comparison.{AfterBoth, ComparisonWork, ComparisonWrites, HasComparingCause, IsGoodForBoth}
use Rattle.basin_cli.specs.Comparison.{OfThree, SomebodyIsInjured}
use Rattle.basin_cli.specs.Ending.{status_of}
use Rattle.basin_cli.specs.Out.{MayWrite}
use Rattle.basin_cli.specs.Pairs.{ArePaired}
use Rattle.basin_cli.proofs.Known.{both_known, good_second, good_series, spelled_by, spelled_history}
use Rattle.basin_cli.proofs.OneSeries.{one_basin}

module _ (bytes other_bytes s : List ℕ) (b c : Basin) (series other : Series) (records others : List MonthRecord)
    (valid : IsValidBasin b) (second_valid : IsValidBasin c) (spelled : AreSpelled bytes s b series)
    (second_spelled : AreSpelled other_bytes s c other)
    (history : IsHistory b series records) (second_history : IsHistory c other others) where
  -- where the list is empty nobody is injured
  nobody : injuries b c records others ≡ [] → SomebodyIsInjured bytes other_bytes s → ⊥
  nobody none is = never (there.1)
    where
      same : is.first ≡ b
      same = one_basin bytes is.first b is.first_spelled.basin_spelled spelled.basin_spelled

      same_second : is.second ≡ c
      same_second = one_basin other_bytes is.second c is.second_spelled.basin_spelled second_spelled.basin_spelled

      moved : IsInjury b c is.records is.others is.injury
      moved = subst (λ (x : Basin). IsInjury b x is.records is.others is.injury) same_second
          (subst (λ (x : Basin). IsInjury x is.second is.records is.others is.injury) same is.is_injury)

      one : injuries b c is.records is.others ≡ []
      one =
          one_list b c series other is.records records is.others others valid second_valid
          (spelled_history bytes s b is.first series is.series is.records spelled is.first_spelled is.first_history)
          history
          (spelled_history other_bytes s c is.second other is.second_series is.others second_spelled
          is.second_spelled is.second_history) second_history
          ∙ none

      there : Contains [] is.injury
      there = subst (λ (all : List Injury). Contains all is.injury) one
          ((injuries_are_all_listed b c is.records is.others is.injury second_valid).0 moved)

      never : suc there.0 ≤ 0 → ⊥
      never l = omega (arith, l)

  -- and otherwise somebody is
  somebody : (all : List Injury) (injury : Injury) → injuries b c records others ≡ injury ∷ all →
      SomebodyIsInjured bytes other_bytes s
  somebody all injury some = record {
    first = b;
    second = c;
    series = series;
    second_series = other;
    first_spelled = spelled;
    second_spelled = second_spelled;
    records = records;
    others = others;
    first_history = history;
    second_history = second_history;
    injury = injury;
    is_injury = (injuries_are_all_listed b c records others injury second_valid).1
        (subst (λ (found : List Injury). Contains found injury) (sym some) (0, omega arith, refl));
  }

-- the ending says which
ends_done : (all : List Injury) → ending.Done ≡ ending_with (length all) → all ≡ []
ends_done [] e = refl
ends_done (i ∷ all) e = absurd (differs (length (i ∷ all) == 0) (positive (length all)) e)
  where
    positive : (n : ℕ) → suc n == 0 ≡ false
    positive n = grind (arith, nat_tests)

    differs : (t : Bool) → t ≡ false → ending.Done ≡ (if t then ending.Done else ending.Injured) → ⊥
    differs true f e = cc
    differs false f e = cc

ends_injured : (all : List Injury) → ending.Injured ≡ ending_with (length all) → (i : Injury) ×
    ((rest : List Injury) × (all ≡ i ∷ rest))
ends_injured [] e = absurd (cc)
ends_injured (i ∷ all) e = (i, (all, refl))

-- what holds of what is known of the files
module _ (known : KnownFiles) (files : Files) (second : List ℕ) (pair : BasinPair)
    (paired : ArePaired known files second pair) where
  -- the files are good, and what holds of all bytes that spell the basins and their series holds
  after_both : (P : List ℕ → List ℕ → List ℕ → Type 0) →
      ((x y z : List ℕ) → IsGoodForBoth x y z → AreSpelled x z pair.first.basin pair.first.series →
      AreSpelled y z pair.second.basin pair.second.series → P x y z) →
      AfterBoth known files second P
  after_both P holds = IfSome_then (known files.basin) paired.loaded.from_basin (λ x text. (
    text.good,
    IfSome_then (known second) paired.second_loaded.from_basin (λ y other. (
      good_second x y pair.first.basin pair.second.basin paired.months text other,
      IfSome_then (known_series known files.series)
          (both_known (known_series known files.series) _ _ paired.loaded.from_series paired.second_loaded.from_series)
          (λ z tables. holds x y z
          (record {
            first = good_series x z pair.first.basin pair.first.series text tables.0;
            second = good_series y z pair.second.basin pair.second.series other tables.1;
          })
          (spelled_by x z pair.first.basin pair.first.series paired.fits text tables.0)
          (spelled_by y z pair.second.basin pair.second.series paired.second_fits other tables.1)),
    )),
  ))

  of_all : (P : List ℕ → List ℕ → List ℕ → Type 0) →
      ((x y z : List ℕ) → AreSpelled x z pair.first.basin pair.first.series →
      AreSpelled y z pair.second.basin pair.second.series → P x y z) → OfThree known files second P
  of_all P holds = IfSome_then (known files.basin) (after_both P (λ x y z good. holds x y z))
      (λ x is. IfSome_then (known second) is.1 (λ y has. has.1))

  -- the cause of how a comparison ends
  pub cause : (how : Ending) (read write : Type 0) (old new : Output) →
      (MayWrite (status_of how) →
      Compares pair.first.basin pair.second.basin pair.first.series pair.second.series how write old new) →
      IsComparedEnd how → HasComparingCause files second how known read write
  cause ending.Done read write old new compares is = let all = compares tt in
      after_both _ (λ x y z good spelled second_spelled. (
        good,
        nobody x y z pair.first.basin pair.second.basin pair.first.series pair.second.series all.records all.others
            paired.valid paired.second_valid spelled second_spelled all.first_keeps.history all.second_keeps.history
            (ends_done (injuries pair.first.basin pair.second.basin all.records all.others) all.ends),
      ))
  cause ending.Injured read write old new compares is = let all = compares tt in
      let found = ends_injured (injuries pair.first.basin pair.second.basin all.records all.others) all.ends in
      after_both _ (λ x y z good spelled second_spelled. (
        good,
        somebody x y z pair.first.basin pair.second.basin pair.first.series pair.second.series all.records all.others
            paired.valid paired.second_valid spelled second_spelled all.first_keeps.history all.second_keeps.history
            found.1.0 found.0 found.1.1,
      ))
  cause ending.WriteFault read write old new compares is =
      ((compares tt).ends, after_both IsGoodForBoth (λ _ _ _ good _ _. good))
  cause ending.OutOfMemory read write old new compares is = tt
  cause other read write old new compares is = absurd is

  -- what a comparison leaves on out
  pub writes : (how : Ending) (write : Type 0) (old new : Output) →
      (MayWrite (status_of how) →
      Compares pair.first.basin pair.second.basin pair.first.series pair.second.series how write old new) →
      ComparisonWrites known files second (status_of how) old new
  writes how write old new compares = of_all _ (λ x y z spelled second_spelled may.
      let all = compares may in
      record {
        first = pair.first.basin;
        second = pair.second.basin;
        records = all.records;
        others = all.others;
        first_run = record { series = pair.first.series; spelled = spelled; keeps = all.first_keeps };
        second_run = record { series = pair.second.series; spelled = second_spelled; keeps = all.second_keeps };
        written = all.written;
      })

  -- and the months that it solves
  pub work : (before now : WorkDone) →
      SolvesBoth pair.first.basin.months pair.first.basin pair.second.basin before now →
      ComparisonWork known files second before now
  work before now solves = IfSome_then (known files.basin) paired.loaded.from_basin (λ x text.
      IfSome_then (known second) paired.second_loaded.from_basin (λ y other b c spelled second_spelled.
      let same : pair.first.basin ≡ b = one_basin x pair.first.basin b text.spelled spelled in
      let same_second : pair.second.basin ≡ c = one_basin y pair.second.basin c other.spelled second_spelled in
      rw (← same, ← same_second) solves))
