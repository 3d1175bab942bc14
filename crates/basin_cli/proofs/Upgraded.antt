-- A basin file in format 2 that was put.
use Rattle.std.proofs.Common.{◌≡◌, ℕ, List, Some, None}
use Rattle.std.proofs.lemmas.Option.{IfSome_then}
use Rattle.std.specs.Prelude.{IfSome}
use Rattle.water_edge.specs.Edge.{Output}
use Rattle.basin_file.specs.BasinFaults.{Spells, file_fault}
use Rattle.basin_file.specs.Upgraded.{basin_table}
use Rattle.toml_tree.specs.Document.{document_of}
use Rattle.water_model.specs.declared.types.Basin.{Basin}
use Rattle.basin_cli.specs.declared.status.Status.{Status}
use Rattle.basin_cli.specs.Bytes.{KnownFiles}
use Rattle.basin_cli.specs.Out.{Leaves}
use Rattle.basin_cli.specs.Series.{IsBasinText}
use Rattle.basin_cli.specs.Upgrading.{UpgradeWrites}

-- what is left on out
pub upgrade_writes : (known : KnownFiles) (name : List ℕ) (b : Basin) (text : List ℕ) (status : Status)
    (old new : Output) → IfSome (known name) (IsBasinText b) → document_of text ≡ Some (basin_table b) →
    Spells text (record b { format = 2 }) → file_fault text ≡ None → Leaves status text old new →
    UpgradeWrites known name status old new
upgrade_writes known name b text status old new from_basin reads spells sound left =
    IfSome_then (known name) from_basin (λ bytes is may. (
      text,
      record { basin = b; spelled = is.spelled; reads = reads; spells = spells; sound = sound },
      left,
    ))
