-- How the reading of a comparison's files may end.
use Rattle.std.specs.Prelude.{◌≡◌, ℕ, List, Option, ⊤, IfSome}
use Rattle.water_model.specs.Valid.{IsValidBasin, IsSeriesOf}
use Rattle.water_model.specs.declared.types.Basin.{Basin}
use Rattle.basin_cli.specs.declared.ending.Ending.{Ending}
use Rattle.basin_cli.specs.declared.ending.Ending.TheVariants as ending
use Rattle.basin_cli.specs.declared.ending.File.TheVariants as file
use Rattle.basin_cli.specs.declared.ending.SecondFinding.TheVariants as of_second
use Rattle.basin_cli.specs.declared.pairs.BasinPair.{BasinPair}
use Rattle.basin_cli.specs.Bytes.{IsRefusedFor, IsTooLong, KnownFiles}
use Rattle.basin_cli.specs.Command.{Files}
use Rattle.basin_cli.specs.Comparison.{HaveSameMonths}
use Rattle.basin_cli.specs.Series.{AreLoaded}

-- the files of the second basin: its own, and the same series
abbrev pub second_files : Files → List ℕ → Files
second_files files second = record { basin = second; series = files.series }

-- how the reading of the second basin may end, where its bytes are known or not
abbrev pub SecondReadEnds : Option (List ℕ) → Type 0 → Ending → Type 0
SecondReadEnds known read (ending.SecondRefused (of_second.Basin finding)) = IfSome known (IsRefusedFor finding)
SecondReadEnds known read (ending.ReadFault file.SecondBasin) = read
SecondReadEnds known read (ending.InputTooLong file.SecondBasin) = IfSome known IsTooLong
SecondReadEnds known read ending.OutOfMemory = ⊤
SecondReadEnds known read other = ⊥

-- the runs have other months, and the call says so
abbrev pub IsOtherRun : Basin → Basin → Ending → Type 0
IsOtherRun first second how = (how ≡ ending.SecondRefused of_second.OtherRun) × (HaveSameMonths first second → ⊥)

-- two basins of one run, each with its series, are what the known bytes of the files spell
pub record ArePaired (known : KnownFiles) (files : Files) (second : List ℕ) (pair : BasinPair) : Type 0 where
  pub valid : IsValidBasin pair.first.basin
  pub second_valid : IsValidBasin pair.second.basin
  pub months : HaveSameMonths pair.first.basin pair.second.basin
  pub fits : IsSeriesOf pair.first.basin pair.first.series
  pub second_fits : IsSeriesOf pair.second.basin pair.second.series
  pub loaded : AreLoaded known files pair.first.basin pair.first.series
  pub second_loaded : AreLoaded known (second_files files second) pair.second.basin pair.second.series
