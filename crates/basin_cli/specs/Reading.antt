-- What holds after the files of a command, and where the reading of them stops.
use Rattle.std.specs.Prelude.{◌≡◌, ℕ, List, ⊤, IfSome, IsSome, ◌⊎◌}
use Rattle.basin_cli.specs.Bytes.{IsGoodBasin, IsGoodSeries, IsRefusedFor, IsSeriesRefusedFor, IsTooLong, KnownFiles}
use Rattle.basin_cli.specs.Bytes.{known_series}
use Rattle.basin_cli.specs.Command.{Files}
use Rattle.basin_cli.specs.declared.ending.Ending.{Ending}
use Rattle.basin_cli.specs.declared.ending.Ending.TheVariants as ending
use Rattle.basin_cli.specs.declared.ending.File.TheVariants as file
use Rattle.basin_cli.specs.declared.status.Status.{Status}
use Rattle.basin_cli.specs.declared.status.Status.TheVariants.{Done, No, OutOfMemory}

-- the basin file is good, and this holds of its bytes and those of the series, as far as they are known
abbrev pub AfterBasin : KnownFiles → Files → (List ℕ → List ℕ → Type 0) → Type 0
AfterBasin known files P =
    IfSome (known files.basin) (λ bytes. IsGoodBasin bytes × IfSome (known_series known files.series) (P bytes))

abbrev pub AreAccepted : KnownFiles → Files → Type 0
AreAccepted known files = AfterBasin known files IsGoodSeries

-- both files are good, and this holds of their bytes
abbrev pub AfterBoth : KnownFiles → Files → (List ℕ → List ℕ → Type 0) → Type 0
AfterBoth known files P = AfterBasin known files (λ bytes series. IsGoodSeries bytes series × P bytes series)

-- both files are good, and this holds of their bytes and those of the result
abbrev pub AfterSeries : KnownFiles → Files → List ℕ → (List ℕ → List ℕ → List ℕ → Type 0) → Type 0
AfterSeries known files result P =
    AfterBasin known files (λ bytes series. IsGoodSeries bytes series × IfSome (known result) (P bytes series))

-- The cause of an ending at which the basin or its series is not read or refused. `known` gives the bytes under a name,
-- where they are known of the shelf; `read` and `write` say that the shelf's and out's count of faults rose.
abbrev pub StopsReading : Files → Ending → KnownFiles → Type 0 → Type 0
StopsReading files (ending.BasinRefused finding) known read = IfSome (known files.basin) (IsRefusedFor finding)
StopsReading files (ending.SeriesRefused finding) known read = AfterBasin known files (IsSeriesRefusedFor finding)
StopsReading files (ending.ReadFault file.Basin) known read = read
StopsReading files (ending.ReadFault file.Series) known read = read × IsSome files.series ×
    IfSome (known files.basin) IsGoodBasin
StopsReading files (ending.InputTooLong file.Basin) known read = IfSome (known files.basin) IsTooLong
StopsReading files (ending.InputTooLong file.Series) known read = AfterBasin known files (λ _ bytes. IsTooLong bytes)
StopsReading files ending.OutOfMemory known read = ⊤
StopsReading files other known read = ⊥

abbrev pub IsDone : Status → Type 0
IsDone status = (status ≡ Done) ⊎ (status ≡ OutOfMemory)

-- the answer says whether this holds: done if it does, and no if it does not
abbrev pub IsJudged : Status → Type 0 → Type 0
IsJudged status asked = (status ≡ OutOfMemory) ⊎ (((status ≡ Done) × asked) ⊎ ((status ≡ No) × (asked → ⊥)))

-- where both files are good, as far as their bytes are known, this holds of the bytes
abbrev pub CompletesAfter : KnownFiles → Files → (List ℕ → List ℕ → Type 0) → Type 0
CompletesAfter known files P =
    IfSome (known files.basin) (λ bytes. IsGoodBasin bytes →
    IfSome (known_series known files.series) (λ series. IsGoodSeries bytes series → P bytes series))

-- this holds of what is known of both files
abbrev pub OfBoth : KnownFiles → Files → (List ℕ → List ℕ → Type 0) → Type 0
OfBoth known files P =
    IfSome (known files.basin) (λ bytes. IfSome (known_series known files.series) (λ series. P bytes series))
