-- Laws over what a file spells.
use Rattle.std.specs.Prelude.{◌≡◌, ℕ, List, None}
use Rattle.water_model.specs.Valid.{IsValidBasin}
use Rattle.water_model.specs.declared.types.Basin.{Basin}
use Rattle.basin_file.specs.BasinFaults.{Spells, file_fault}
use Rattle.basin_file.specs.Spelled.{basin_of, IsPlain}
use Rattle.basin_file.specs.Upgraded.{basin_table}

-- A file without a fault spells a basin, which is valid.
abbrev pub FaultlessFilesAreValid : Type 0
FaultlessFilesAreValid = (bytes : List ℕ) → file_fault bytes ≡ None → (b : Basin) × Spells bytes b × IsValidBasin b

-- The table of a valid basin that a file spells, spells it, in format 2.
abbrev pub TablesSpellTheirBasins : Type 0
TablesSpellTheirBasins = (b : Basin) → IsValidBasin b → IsPlain b → basin_of (basin_table b) ≡ record b { format = 2 }
