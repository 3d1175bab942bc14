use Rattle.next_unit.proofs.InHistories.{histories_show_where_supply_helps}
use Rattle.next_unit.proofs.laws.histories_show_where_supply_helps.Goals as goal

pub returns : goal.returns
returns c = histories_show_where_supply_helps
