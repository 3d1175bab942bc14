-- Basin files in format 2: how a call that writes one may end, and what it leaves on out.
use Rattle.std.specs.Prelude.{◌≡◌, ℕ, List, None, Some, IfSome, ⊤}
use Rattle.water_edge.specs.Edge.{Output}
use Rattle.basin_file.specs.BasinFaults.{Spells, file_fault}
use Rattle.basin_file.specs.Upgraded.{basin_table}
use Rattle.toml_tree.specs.Document.{document_of}
use Rattle.water_model.specs.declared.types.Basin.{Basin}
use Rattle.basin_cli.specs.declared.ending.Ending.{Ending}
use Rattle.basin_cli.specs.declared.ending.Ending.TheVariants as ending
use Rattle.basin_cli.specs.declared.ending.File.TheVariants as file
use Rattle.basin_cli.specs.declared.status.Status.{Status}
use Rattle.basin_cli.specs.Bytes.{IsGoodBasin, IsRefusedFor, IsTooLong, KnownFiles}
use Rattle.basin_cli.specs.Out.{Leaves, MayWrite}
use Rattle.basin_cli.specs.Reading.{IsDone}

-- a text is read as the table of format 2 of the basin that the bytes of a file spell. So it spells the same basin,
-- except for the format, and nothing in it is at fault
pub record IsUpgradeOf (bytes text : List ℕ) : Type 0 where
  pub basin : Basin
  pub spelled : Spells bytes basin
  pub reads : document_of text ≡ Some (basin_table basin)
  pub spells : Spells text (record basin { format = 2 })
  pub sound : file_fault text ≡ None

-- the cause of an ending of `upgrade`
abbrev pub HasUpgradingCause : List ℕ → Ending → KnownFiles → Type 0 → Type 0 → Type 0
HasUpgradingCause name ending.Done known read write = IfSome (known name) IsGoodBasin
HasUpgradingCause name ending.WriteFault known read write = write × IfSome (known name) IsGoodBasin
HasUpgradingCause name (ending.BasinRefused finding) known read write = IfSome (known name) (IsRefusedFor finding)
HasUpgradingCause name (ending.ReadFault file.Basin) known read write = read
HasUpgradingCause name (ending.InputTooLong file.Basin) known read write = IfSome (known name) IsTooLong
HasUpgradingCause name ending.OutOfMemory known read write = ⊤
HasUpgradingCause name other known read write = ⊥

-- known bytes that are accepted: the call is done, unless memory ran out
abbrev pub UpgradesAfter : KnownFiles → List ℕ → Status → Type 0
UpgradesAfter known name status = IfSome (known name) (λ bytes. IsGoodBasin bytes → IsDone status)

-- out was left with such a text, or after a fault of out with a prefix of it
abbrev pub UpgradeWrites : KnownFiles → List ℕ → Status → Output → Output → Type 0
UpgradeWrites known name status old new =
    IfSome (known name) (λ bytes. MayWrite status → (text : List ℕ) × IsUpgradeOf bytes text ×
    Leaves status text old new)
