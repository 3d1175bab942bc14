-- The runs of two basins, compared month by month.
use Rattle.std.specs.Prelude.{◌≡◌, ℕ, List, length, flat_map, ◌==◌, if◌then◌else◌, ⊤}
use Rattle.water_edge.specs.Edge.{Output}
use Rattle.month_fold.specs.Runs.{RunView, RunStandsFor}
use Rattle.water_model.specs.declared.types.Basin.{Basin}
use Rattle.water_model.specs.declared.types.Series.{Series}
use Rattle.water_model.specs.declared.types.MonthRecord.{MonthRecord}
use Rattle.injury.specs.Injuries.{injuries, injured_row, comparison_text}
use Rattle.injury.specs.declared.injuries.Injury.{Injury}
use Rattle.basin_cli.specs.declared.ending.Ending.{Ending}
use Rattle.basin_cli.specs.declared.ending.Ending.TheVariants as ending
use Rattle.basin_cli.specs.Ending.{status_of}
use Rattle.basin_cli.specs.Out.{Leaves}
use Rattle.basin_cli.specs.Headline.{KeepsPriority}

-- two runs went through equally many months, and the bytes are the rows of the injuries in them, which were counted
pub record AreCompared (b c : Basin) (first second : RunView) (bytes : List ℕ) (injured : ℕ) : Type 0 where
  pub first_basin : first.basin ≡ b
  pub second_basin : second.basin ≡ c
  pub records : List MonthRecord
  pub others : List MonthRecord
  pub first_stands : RunStandsFor first records
  pub second_stands : RunStandsFor second others
  pub abreast : length records ≡ length others
  pub rows : bytes ≡ flat_map (injured_row b) (injuries b c records others)
  pub number : injured ≡ length (injuries b c records others)

-- the bytes are the comparison of two lists of records that keep the priority of rights
pub record IsTextOfComparison (b c : Basin) (series other : Series) (bytes : List ℕ) (injured : ℕ) : Type 0 where
  pub records : List MonthRecord
  pub others : List MonthRecord
  pub first_keeps : KeepsPriority b series records
  pub second_keeps : KeepsPriority c other others
  pub text : bytes ≡ comparison_text b c records others
  pub number : injured ≡ length (injuries b c records others)

-- how a comparison with this many injuries ends, unless it can't be written
abbrev pub ending_with : ℕ → Ending
ending_with injured = if injured == 0 then ending.Done else ending.Injured

-- how a comparison may end: as its injuries say, or by a fault of out, or for want of memory
abbrev pub EndsComparing : List Injury → Ending → Type 0 → Type 0
EndsComparing all ending.WriteFault write = write
EndsComparing all how write = how ≡ ending_with (length all)

-- no comparison ends otherwise
abbrev pub IsComparedEnd : Ending → Type 0
IsComparedEnd ending.Done = ⊤
IsComparedEnd ending.Injured = ⊤
IsComparedEnd ending.WriteFault = ⊤
IsComparedEnd ending.OutOfMemory = ⊤
IsComparedEnd other = ⊥

-- what `compare` leaves on out, and how it ends: the comparison of two lists of records that keep the priority of
-- rights, and whether somebody is injured in it
pub record Compares (b c : Basin) (series other : Series) (how : Ending) (write : Type 0)
    (old new : Output) : Type 0 where
  pub records : List MonthRecord
  pub others : List MonthRecord
  pub first_keeps : KeepsPriority b series records
  pub second_keeps : KeepsPriority c other others
  pub written : Leaves (status_of how) (comparison_text b c records others) old new
  pub ends : EndsComparing (injuries b c records others) how write
