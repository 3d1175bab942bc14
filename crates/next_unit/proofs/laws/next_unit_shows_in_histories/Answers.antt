use Rattle.next_unit.proofs.InHistories.{next_unit_shows_in_histories}
use Rattle.next_unit.proofs.laws.next_unit_shows_in_histories.Goals as goal

pub returns : goal.returns
returns c = next_unit_shows_in_histories
