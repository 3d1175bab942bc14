use Rattle.stored_water.proofs.Accounting.{fills_add_up}
use Rattle.stored_water.proofs.account_laws.fills_add_up.Goals as goal

pub returns : goal.returns
returns c = fills_add_up
