use Rattle.stored_water.proofs.Ledgers.{ledger_is_one}
use Rattle.stored_water.proofs.account_laws.ledger_is_one.Goals as goal

pub returns : goal.returns
returns c = ledger_is_one
