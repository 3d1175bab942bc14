-- Lines that name what a basin has.
use Rattle.std.specs.Prelude.{◌<◌, length}
use Rattle.water_text.specs.Months.{IsMonth}
use Rattle.water_model.specs.Entries.{count_in}
use Rattle.result_lines.specs.Quantities.{space_of}
use Rattle.result_lines.specs.declared.item.Item.{Item}
use Rattle.result_lines.specs.declared.item.Item.TheVariants as line
use Rattle.water_model.specs.declared.types.Basin.{Basin}

-- the line names entries of the basin and months of the calendar
abbrev pub IsOfBasin : Basin → Item → Type 0
IsOfBasin b line.Title = Unit {0}
IsOfBasin b (line.Run first months) = IsMonth first
IsOfBasin b (line.Month month) = IsMonth month
IsOfBasin b (line.Amount q entry amount) = entry < count_in (space_of q) b
IsOfBasin b (line.Deliver right amount want) = right < length b.rights
IsOfBasin b (line.Call right) = right < length b.rights
IsOfBasin b (line.Member node) = node < length b.nodes
IsOfBasin b (line.Called right by') = (right < length b.rights) × (by' < length b.rights)
IsOfBasin b line.End = Unit {0}
IsOfBasin b (line.Done months) = Unit {0}
