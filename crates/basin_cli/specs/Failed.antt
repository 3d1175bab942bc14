-- Which files were asked for where the reading of a command's files stopped.
use Rattle.std.specs.Prelude.{◌≡◌, ℕ, ◌++◌, List, [], ◌∷◌, Contains, Option, Some, None, IfSome}
use Rattle.water_edge.specs.Edge.{Rose}
use Rattle.basin_cli.specs.Command.{Files}
use Rattle.basin_cli.specs.declared.ending.Ending.{Ending}
use Rattle.basin_cli.specs.declared.ending.Ending.TheVariants as ending
use Rattle.basin_cli.specs.declared.ending.File.{File}
use Rattle.basin_cli.specs.declared.ending.File.TheVariants as file
use Rattle.basin_cli.specs.declared.ending.SecondFinding.TheVariants as of_second

-- how many calls asked for the file of each name, where a shelf says that
abbrev pub AskedCounts : Type 0
AskedCounts = List ℕ → Option ℕ

-- a file was asked for: the count of the calls for it rose, where it is known
abbrev pub IsAskedFor : Option ℕ → Option ℕ → Type 0
IsAskedFor old new = IfSome old (λ before. (now : ℕ) × (new ≡ Some now) × Rose before now)

-- each of these files was asked for, and no other
pub record AskForEach (names : List (List ℕ)) (old new : AskedCounts) : Type 0 where
  pub each : (name : List ℕ) → Contains names name → IsAskedFor (old name) (new name)
  pub others : (name : List ℕ) → (Contains names name → ⊥) → new name ≡ old name

-- the file that could not be read, is too long or is refused, where an ending says so. A script that is refused was
-- read
abbrev pub file_at : Ending → Option File
file_at (ending.BasinRefused finding) = Some file.Basin
file_at ending.PartYear = Some file.Basin
file_at (ending.SeriesRefused finding) = Some file.Series
file_at (ending.SecondRefused (of_second.Series finding)) = Some file.Series
file_at (ending.SecondRefused other) = Some file.SecondBasin
file_at (ending.ReadFault file) = Some file
file_at (ending.InputTooLong file) = Some file
file_at other = None

-- an ending at a file is at this one
abbrev pub IsAt : File → Ending → Type 0
IsAt file how = IfSome (file_at how) (λ at. at ≡ file)

abbrev pub series_file : Option (List ℕ) → List (List ℕ)
series_file None = []
series_file (Some name) = name ∷ []

-- the names of a basin and its series, in the order in which they are read, up to this one
abbrev pub inputs_to : Files → File → List (List ℕ)
inputs_to files file.Basin = files.basin ∷ []
inputs_to files other = files.basin ∷ series_file files.series

-- and those of the two basins and the series of a comparison
abbrev pub pair_to : Files → List ℕ → File → List (List ℕ)
pair_to files second file.Basin = files.basin ∷ []
pair_to files second file.SecondBasin = files.basin ∷ second ∷ []
pair_to files second other = files.basin ∷ second ∷ series_file files.series

-- and those of a command that reads a result or a script after its inputs
abbrev pub inputs_and : Files → List ℕ → File → List (List ℕ)
inputs_and files last file.Result = inputs_to files file.Series ++ last ∷ []
inputs_and files last file.Script = inputs_to files file.Series ++ last ∷ []
inputs_and files last other = inputs_to files other

-- an ending at a file comes only after each file up to that one was asked for, and no other
abbrev pub AskUpTo : (File → List (List ℕ)) → Ending → AskedCounts → AskedCounts → Type 0
AskUpTo names how old new = IfSome (file_at how) (λ file. AskForEach (names file) old new)
