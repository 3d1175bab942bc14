-- Lines that a text of a basin may have.
use Rattle.std.specs.Prelude.{◌≤◌, ◌^◌}
use Rattle.result_lines.specs.OfBasin.{IsOfBasin}
use Rattle.result_lines.specs.declared.item.Item.{Item}
use Rattle.result_lines.specs.declared.item.Item.TheVariants as line
use Rattle.water_model.specs.declared.types.Basin.{Basin}

-- amounts are at most 10^15, and numbers of months 1 to 1,200
abbrev pub HasTextNumbers : Item → Type 0
HasTextNumbers line.Title = Unit {0}
HasTextNumbers (line.Run first months) = (1 ≤ months) × (months ≤ 1200)
HasTextNumbers (line.Month month) = Unit {0}
HasTextNumbers (line.Amount q entry amount) = amount ≤ 10 ^ 15
HasTextNumbers (line.Deliver right amount want) = (amount ≤ 10 ^ 15) × (want ≤ 10 ^ 15)
HasTextNumbers (line.Call right) = Unit {0}
HasTextNumbers (line.Member node) = Unit {0}
HasTextNumbers (line.Called right by') = Unit {0}
HasTextNumbers line.End = Unit {0}
HasTextNumbers (line.Done months) = (1 ≤ months) × (months ≤ 1200)

-- the line names entries of the basin and months of the calendar, and its numbers are those of a text
pub record IsOfText (b : Basin) (i : Item) : Type 0 where
  pub of_basin : IsOfBasin b i
  pub numbers : HasTextNumbers i
