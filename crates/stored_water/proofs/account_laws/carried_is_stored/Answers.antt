use Rattle.stored_water.proofs.Stores.{carried_is_stored}
use Rattle.stored_water.proofs.account_laws.carried_is_stored.Goals as goal

pub returns : goal.returns
returns c = carried_is_stored
