-- `compare`: the cause of each of its endings, what it leaves on out, and the months that it solves.
use Rattle.std.specs.Prelude.{◌≡◌, ℕ, List, ⊤, IfSome, IsSome, ◌⊎◌}
use Rattle.water_edge.specs.Edge.{Output}
use Rattle.basin_file.specs.BasinFaults.{Spells}
use Rattle.injury.specs.Injuries.{IsInjury, comparison_text}
use Rattle.injury.specs.declared.injuries.Injury.{Injury}
use Rattle.month_fold.specs.Works.{SolvesBoth, WorkDone}
use Rattle.water_model.specs.History.{IsHistory}
use Rattle.water_model.specs.declared.types.Basin.{Basin}
use Rattle.water_model.specs.declared.types.Series.{Series}
use Rattle.water_model.specs.declared.types.MonthRecord.{MonthRecord}
use Rattle.basin_cli.specs.declared.status.Status.{Status}
use Rattle.basin_cli.specs.declared.status.Status.TheVariants as status
use Rattle.basin_cli.specs.declared.ending.Ending.{Ending}
use Rattle.basin_cli.specs.declared.ending.Ending.TheVariants as ending
use Rattle.basin_cli.specs.declared.ending.File.TheVariants as file
use Rattle.basin_cli.specs.declared.ending.SecondFinding.TheVariants as of_second
use Rattle.basin_cli.specs.Bytes.{AreSpelled, IsGoodBasin, IsGoodSeries, IsRefusedFor, IsRunOf, IsSeriesRefusedFor}
use Rattle.basin_cli.specs.Bytes.{IsTooLong, KnownFiles, known_series}
use Rattle.basin_cli.specs.Command.{Files}
use Rattle.basin_cli.specs.Out.{Leaves, MayWrite}

-- the runs of two basins have the same months
abbrev pub HaveSameMonths : Basin → Basin → Type 0
HaveSameMonths first second = (second.first ≡ first.first) × (second.months ≡ first.months)

-- the bytes of two files spell basins of which this holds
pub record OfBasins (bytes second_bytes : List ℕ) (P : Basin → Basin → Type 0) : Type 0 where
  pub first : Basin
  pub second : Basin
  pub first_spelled : Spells bytes first
  pub second_spelled : Spells second_bytes second
  pub holds : P first second

-- their runs have the same months, or they don't
abbrev pub AreOfOneRun : List ℕ → List ℕ → Type 0
AreOfOneRun bytes second_bytes = OfBasins bytes second_bytes HaveSameMonths

abbrev pub AreOfOtherRuns : List ℕ → List ℕ → Type 0
AreOfOtherRuns bytes second_bytes = OfBasins bytes second_bytes (λ b c. HaveSameMonths b c → ⊥)

-- the second basin can be compared with the first: it is good, and its run has the same months
pub record IsGoodSecond (bytes second_bytes : List ℕ) : Type 0 where
  pub good : IsGoodBasin second_bytes
  pub one_run : AreOfOneRun bytes second_bytes

-- the series is good for both basins
pub record IsGoodForBoth (bytes second_bytes series_bytes : List ℕ) : Type 0 where
  pub first : IsGoodSeries bytes series_bytes
  pub second : IsGoodSeries second_bytes series_bytes

-- Somebody is injured: in some month of histories of the two basins, each with the series, a right that both have is
-- delivered less in the second's. It makes no difference which of several histories are taken.
pub record SomebodyIsInjured (bytes second_bytes series_bytes : List ℕ) : Type 0 where
  pub first : Basin
  pub second : Basin
  pub series : Series
  pub second_series : Series
  pub first_spelled : AreSpelled bytes series_bytes first series
  pub second_spelled : AreSpelled second_bytes series_bytes second second_series
  pub records : List MonthRecord
  pub others : List MonthRecord
  pub first_history : IsHistory first series records
  pub second_history : IsHistory second second_series others
  pub injury : Injury
  pub is_injury : IsInjury first second records others injury

-- the first basin is good, and this holds of its bytes and those of the second, as far as they are known
abbrev pub AfterFirst : KnownFiles → Files → List ℕ → (List ℕ → List ℕ → Type 0) → Type 0
AfterFirst known files second P =
    IfSome (known files.basin) (λ bytes. IsGoodBasin bytes × IfSome (known second) (P bytes))

-- both basins are good and of one run, and this holds of their bytes and those of the series
abbrev pub AfterBoth : KnownFiles → Files → List ℕ → (List ℕ → List ℕ → List ℕ → Type 0) → Type 0
AfterBoth known files second P =
    AfterFirst known files second (λ bytes second_bytes. IsGoodSecond bytes second_bytes ×
    IfSome (known_series known files.series) (P bytes second_bytes))

-- the cause of an ending at which a file of a comparison is not read or refused
abbrev pub StopsComparing : Files → List ℕ → Ending → KnownFiles → Type 0 → Type 0
StopsComparing files second (ending.BasinRefused finding) known read = IfSome (known files.basin) (IsRefusedFor finding)
StopsComparing files second (ending.SecondRefused (of_second.Basin finding)) known read =
    AfterFirst known files second (λ _ other. IsRefusedFor finding other)
StopsComparing files second (ending.SecondRefused of_second.OtherRun) known read =
    AfterFirst known files second (λ bytes other. IsGoodBasin other × AreOfOtherRuns bytes other)
StopsComparing files second (ending.SeriesRefused finding) known read =
    AfterBoth known files second (λ bytes _ series. IsSeriesRefusedFor finding bytes series)
StopsComparing files second (ending.SecondRefused (of_second.Series finding)) known read =
    AfterBoth known files second (λ bytes other series. IsGoodSeries bytes series ×
    IsSeriesRefusedFor finding other series)
StopsComparing files second (ending.ReadFault file.Basin) known read = read
StopsComparing files second (ending.ReadFault file.SecondBasin) known read = read ×
    IfSome (known files.basin) IsGoodBasin
StopsComparing files second (ending.ReadFault file.Series) known read = read × IsSome files.series ×
    AfterFirst known files second IsGoodSecond
StopsComparing files second (ending.InputTooLong file.Basin) known read = IfSome (known files.basin) IsTooLong
StopsComparing files second (ending.InputTooLong file.SecondBasin) known read =
    AfterFirst known files second (λ _ other. IsTooLong other)
StopsComparing files second (ending.InputTooLong file.Series) known read =
    AfterBoth known files second (λ _ _ series. IsTooLong series)
StopsComparing files second ending.OutOfMemory known read = ⊤
StopsComparing files second other known read = ⊥

-- the cause of an ending of a comparison: it answers no exactly where somebody is injured
abbrev pub HasComparingCause : Files → List ℕ → Ending → KnownFiles → Type 0 → Type 0 → Type 0
HasComparingCause files second ending.Done known read write =
    AfterBoth known files second (λ bytes other series. IsGoodForBoth bytes other series ×
    (SomebodyIsInjured bytes other series → ⊥))
HasComparingCause files second ending.Injured known read write =
    AfterBoth known files second (λ bytes other series. IsGoodForBoth bytes other series ×
    SomebodyIsInjured bytes other series)
HasComparingCause files second ending.WriteFault known read write = write × AfterBoth known files second IsGoodForBoth
HasComparingCause files second how known read write = StopsComparing files second how known read

-- a comparison is done where nobody is injured, and answers no where somebody is
abbrev pub IsComparedAs : Status → Type 0 → Type 0
IsComparedAs how injured =
    (how ≡ status.OutOfMemory) ⊎ (((how ≡ status.Done) × (injured → ⊥)) ⊎ ((how ≡ status.No) × injured))

-- known bytes that are accepted: the basins are compared, unless memory ran out
abbrev pub ComparesAfter : KnownFiles → Files → List ℕ → Status → Type 0
ComparesAfter known files second how =
    IfSome (known files.basin) (λ bytes. IsGoodBasin bytes →
    IfSome (known second) (λ other. IsGoodSecond bytes other →
    IfSome (known_series known files.series) (λ series. IsGoodForBoth bytes other series →
    IsComparedAs how (SomebodyIsInjured bytes other series))))

-- What `compare` leaves on out: the comparison of a run of the first basin with one of the second, each with the
-- series. Both keep the priority of rights.
pub record WritesComparison (how : Status) (bytes second_bytes series_bytes : List ℕ) (old new : Output) : Type
    0 where
  pub first : Basin
  pub second : Basin
  pub records : List MonthRecord
  pub others : List MonthRecord
  pub first_run : IsRunOf bytes series_bytes first records
  pub second_run : IsRunOf second_bytes series_bytes second others
  pub written : Leaves how (comparison_text first second records others) old new

-- this holds of what is known of all three files
abbrev pub OfThree : KnownFiles → Files → List ℕ → (List ℕ → List ℕ → List ℕ → Type 0) → Type 0
OfThree known files second P =
    IfSome (known files.basin)
    (λ bytes. IfSome (known second) (λ other. IfSome (known_series known files.series) (P bytes other)))

abbrev pub ComparisonWrites : KnownFiles → Files → List ℕ → Status → Output → Output → Type 0
ComparisonWrites known files second how old new =
    OfThree known files second (λ bytes other series. MayWrite how → WritesComparison how bytes other series old new)

-- no more months are solved than those of both runs
abbrev pub ComparisonWork : KnownFiles → Files → List ℕ → WorkDone → WorkDone → Type 0
ComparisonWork known files second before now =
    IfSome (known files.basin) (λ bytes. IfSome (known second) (λ other.
    (first second : Basin) → Spells bytes first → Spells other second →
    SolvesBoth first.months first second before now))
