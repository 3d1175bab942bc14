use Rattle.stored_water.proofs.Ledgers.{carried_is_one}
use Rattle.stored_water.proofs.account_laws.carried_is_one.Goals as goal

pub returns : goal.returns
returns c = carried_is_one
