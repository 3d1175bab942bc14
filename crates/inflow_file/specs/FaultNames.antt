-- The words for the faults of a series.
use Rattle.std.specs.Prelude.{ℕ, List, codes}
use Rattle.inflow_file.specs.declared.refused.SeriesFault.{SeriesFault}
use Rattle.inflow_file.specs.declared.refused.SeriesFault.TheVariants as fault

-- the word for a fault
unfoldable pub fault_name : SeriesFault → List ℕ
fault_name fault.Csv = codes "Csv"
fault_name fault.Header = codes "Header"
fault_name fault.BadMonth = codes "BadMonth"
fault_name fault.BadKind = codes "BadKind"
fault_name fault.NoSuchNode = codes "NoSuchNode"
fault_name fault.NotGauged = codes "NotGauged"
fault_name fault.NoSuchRight = codes "NoSuchRight"
fault_name fault.NotSeries = codes "NotSeries"
fault_name fault.BadAmount = codes "BadAmount"
fault_name fault.Repeated = codes "Repeated"
