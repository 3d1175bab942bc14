-- A record that shows what lines say of the current month.
use Rattle.std.specs.Prelude.{◌≡◌}
use Rattle.water_text.specs.Months.{IsMonth}
use Rattle.water_model.specs.declared.types.Basin.{Basin}
use Rattle.water_model.specs.declared.types.MonthRecord.{MonthRecord}
use Rattle.month_terms.specs.Terms.{FitsRecord}

-- the record has what was read, but for its supply, of which lines say nothing
pub record Shows (m now : MonthRecord) : Type 0 where
  pub index : m.index ≡ now.index
  pub month : m.month ≡ now.month
  pub opening : m.opening ≡ now.opening
  pub evaporated : m.evaporated ≡ now.evaporated
  pub returned : m.returned ≡ now.returned
  pub used : m.used ≡ now.used
  pub want : m.want ≡ now.want
  pub flow : m.plan.flow ≡ now.plan.flow
  pub take : m.plan.take ≡ now.plan.take
  pub out : m.plan.out ≡ now.plan.out
  pub delivered : m.delivered ≡ now.delivered
  pub sets : m.cuts.sets ≡ now.cuts.sets
  pub closing : m.closing ≡ now.closing

-- the record fits the basin, and has what was read
pub record IsRecordOf (b : Basin) (m now : MonthRecord) : Type 0 where
  pub fits : FitsRecord b m
  pub calendar : IsMonth m.month
  pub shows : Shows m now
