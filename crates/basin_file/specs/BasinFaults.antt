-- The faults of a basin's network, rights and area tables, and the first fault of a file.
use Rattle.std.specs.Prelude.{◌≡◌, ℕ, ◌+◌, take, count_by, List, [], ◌∷◌, Bool, true, false, Option, Some, None}
use Rattle.std.specs.Prelude.{option_and_then, ⊤}
use Rattle.std.specs.Option.{option_or}
use Rattle.toml.specs.Data.{Members}
use Rattle.toml_tree.specs.Document.{document_of}
use Rattle.water_model.specs.Lookups.{of_entry}
use Rattle.water_model.specs.declared.types.Basin.{Basin}
use Rattle.water_model.specs.declared.types.Reservoir.{Reservoir}
use Rattle.water_model.specs.declared.types.Right.{Right}
use Rattle.water_model.specs.declared.types.RightKind.{RightKind}
use Rattle.water_model.specs.declared.types.RightKind.TheVariants as kind
use Rattle.river_net.specs.NetFaults.{net_fault}
use Rattle.river_net.specs.declared.refused.NetRefused.{NetRefused}
use Rattle.river_net.specs.declared.refused.NetRefused.TheVariants as net
use Rattle.rights_roll.specs.RollFaults.{roll_fault}
use Rattle.rights_roll.specs.declared.RollRefused.{RollRefused}
use Rattle.rights_roll.specs.declared.RollRefused.TheVariants as roll
use Rattle.reservoirs.specs.AreaFaults.{table_fault}
use Rattle.reservoirs.specs.declared.TableRefused.{TableRefused}
use Rattle.reservoirs.specs.declared.TableRefused.TheVariants as area
use Rattle.basin_tree.specs.Entries.{found}
use Rattle.basin_tree.specs.Order.{tree_fault}
use Rattle.basin_tree.specs.declared.fault.BasinFault.{BasinFault}
use Rattle.basin_tree.specs.declared.fault.BasinFault.TheVariants as fault
use Rattle.basin_tree.specs.declared.tables.BasinTable.{BasinTable}
use Rattle.basin_tree.specs.declared.tables.BasinTable.TheVariants as table
use Rattle.basin_tree.specs.declared.walk.Finding.{Finding}
use Rattle.basin_file.specs.Spelled.{basin_of}
use Rattle.basin_file.specs.declared.refused.BasinRefused.{BasinRefused}
use Rattle.basin_file.specs.declared.refused.BasinRefused.TheVariants as refused

-- the fault that a refused network is reported as. Entries count from 1
abbrev pub net_finding : NetRefused → Option Finding
net_finding (net.SelfLink link) = Some (found fault.SelfLink table.Link (link + 1))
net_finding (net.LinkFromOutlet link) = Some (found fault.LinkFromOutlet table.Link (link + 1))
net_finding (net.NoRiver node) = Some (found fault.NoRiver table.Node (node + 1))
net_finding (net.DirectedCycle node) = Some (found fault.DirectedCycle table.Node (node + 1))
net_finding net.OutOfMemory = None

-- the table of a right
abbrev pub table_of : RightKind → BasinTable
table_of (kind.Diversion node) = table.Diversion
table_of (kind.Instream link) = table.Instream
table_of (kind.Zone reservoir level) = table.Zone

abbrev pub is_in_table : BasinTable → RightKind → Bool
is_in_table table.Diversion (kind.Diversion node) = true
is_in_table table.Instream (kind.Instream link) = true
is_in_table table.Zone (kind.Zone reservoir level) = true
is_in_table _ _ = false

-- a fault of a right, in its table. Its number there is how many rights of the table stand up to it
abbrev pub right_found : BasinFault → List Right → ℕ → Finding
right_found fault rights right =
    let its = of_entry rights right (λ r. table_of r.kind) table.Top in
    found fault its (count_by (λ r. is_in_table its r.kind) (take (right + 1) rights))

-- the fault that a refused roll of rights is reported as. Of two rights of one priority the later one has it
abbrev pub roll_finding : List Right → RollRefused → Option Finding
roll_finding rights (roll.BadDate right) = Some (right_found fault.BadDate rights right)
roll_finding rights (roll.SameSeniority first later) = Some (right_found fault.SameSeniority rights later)
roll_finding rights (roll.ZoneOrder right) = Some (right_found fault.ZoneOrder rights right)
roll_finding rights (roll.ReturnParts right) = Some (right_found fault.ReturnParts rights right)
roll_finding rights roll.OutOfMemory = None

-- the fault that a refused area table is reported as, by the number of its reservoir
abbrev pub area_finding : ℕ → TableRefused → Option Finding
area_finding number area.Empty = Some (found fault.TableEmpty table.Reservoir number)
area_finding number area.FirstNotZero = Some (found fault.TableFirst table.Reservoir number)
area_finding number (area.NotRising point) = Some (found fault.TableRising table.Reservoir number)
area_finding number (area.AreaFalls point) = Some (found fault.TableArea table.Reservoir number)
area_finding number area.OutOfMemory = None

-- the first reservoir whose area table is at fault, after n others
abbrev pub areas_fault : ℕ → List Reservoir → Option Finding
areas_fault n [] = None
areas_fault n (v ∷ reservoirs) =
    option_or (option_and_then (area_finding (n + 1)) (table_fault v.area)) (areas_fault (n + 1) reservoirs)

-- the first fault of a basin: of its network, then of its rights, then of its area tables
unfoldable pub basin_fault : Basin → Option Finding
basin_fault b =
    option_or (option_and_then net_finding (net_fault b.nodes b.links))
    (option_or (option_and_then (roll_finding b.rights) (roll_fault b.rights b.returns)) (areas_fault 0 b.reservoirs))

-- the first fault of a document: its own, and else that of the basin which it spells
abbrev pub document_fault : Option Members → Option Finding
document_fault None = Some (found fault.Toml table.Top 0)
document_fault (Some tree) = option_or (tree_fault tree) (basin_fault (basin_of tree))

-- the first fault of a file
abbrev pub file_fault : List ℕ → Option Finding
file_fault bytes = document_fault (document_of bytes)

-- a refusal names the first fault, or says that memory ran out
abbrev pub IsRefusalOf : Option Finding → BasinRefused → Type 0
IsRefusalOf first refused.OutOfMemory = ⊤
IsRefusalOf first (refused.Refused fault table entry) =
    first ≡ Some (record { fault = fault; table = table; entry = entry })

abbrev pub IsFileRefusal : BasinRefused → List ℕ → Type 0
IsFileRefusal e bytes = IsRefusalOf (file_fault bytes) e

-- the bytes are a document that spells the basin
pub record Spells (bytes : List ℕ) (basin : Basin) : Type 0 where
  pub tree : Members
  pub document : document_of bytes ≡ Some tree
  pub basin_is : basin ≡ basin_of tree
