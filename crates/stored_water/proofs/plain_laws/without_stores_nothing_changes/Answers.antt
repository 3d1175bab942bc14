use Rattle.stored_water.proofs.Plain.{without_stores_nothing_changes}
use Rattle.stored_water.proofs.plain_laws.without_stores_nothing_changes.Goals as goal

pub returns : goal.returns
returns c = without_stores_nothing_changes
