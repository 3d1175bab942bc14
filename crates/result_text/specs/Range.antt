-- Records whose lines can be written.
use Rattle.std.specs.Prelude.{◌≡◌, ℕ, length, IfSome}
use Rattle.water_text.specs.Months.{IsMonth}
use Rattle.water_model.specs.History.{FitsBasin, cut_of}
use Rattle.water_model.specs.declared.types.Basin.{Basin}
use Rattle.water_model.specs.declared.types.MonthRecord.{MonthRecord}

-- each list has one number for each reservoir, node, right or link, each set one truth value for each node, and the
-- month is one that can be spelled
pub record FitsText (b : Basin) (m : MonthRecord) : Type 0 where
  pub fits : FitsBasin b m
  pub month : IsMonth m.month
  pub flow : length m.plan.flow ≡ length b.links
  pub out : length m.plan.out ≡ length b.nodes
  pub sets : (right : ℕ) → IfSome (cut_of m right) (λ set. length set ≡ length b.nodes)
