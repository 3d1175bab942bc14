use Rattle.stored_water.proofs.Accounting.{accounts_stay_within_reservoir}
use Rattle.stored_water.proofs.account_laws.accounts_stay_within_reservoir.Goals as goal

pub returns : goal.returns
returns c = accounts_stay_within_reservoir
