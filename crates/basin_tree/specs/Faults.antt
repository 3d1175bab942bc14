-- The words for faults.
use Rattle.std.specs.Prelude.{ℕ, List, codes}
use Rattle.basin_tree.specs.declared.fault.BasinFault.{BasinFault}
use Rattle.basin_tree.specs.declared.fault.BasinFault.TheVariants as fault

-- the word for a fault
unfoldable pub fault_name : BasinFault → List ℕ
fault_name fault.Toml = codes "Toml"
fault_name fault.UnknownKey = codes "UnknownKey"
fault_name fault.MissingKey = codes "MissingKey"
fault_name fault.WrongKind = codes "WrongKind"
fault_name fault.OutOfRange = codes "OutOfRange"
fault_name fault.BadName = codes "BadName"
fault_name fault.TooMany = codes "TooMany"
fault_name fault.SameName = codes "SameName"
fault_name fault.NoSuchName = codes "NoSuchName"
fault_name fault.OutletReservoir = codes "OutletReservoir"
fault_name fault.SelfLink = codes "SelfLink"
fault_name fault.LinkFromOutlet = codes "LinkFromOutlet"
fault_name fault.NoRiver = codes "NoRiver"
fault_name fault.DirectedCycle = codes "DirectedCycle"
fault_name fault.BadDate = codes "BadDate"
fault_name fault.SameSeniority = codes "SameSeniority"
fault_name fault.ZoneOrder = codes "ZoneOrder"
fault_name fault.ReturnParts = codes "ReturnParts"
fault_name fault.TableEmpty = codes "TableEmpty"
fault_name fault.TableFirst = codes "TableFirst"
fault_name fault.TableRising = codes "TableRising"
fault_name fault.TableArea = codes "TableArea"
