use Rattle.stored_water.proofs.Accounting.{accounts_stay_within_space}
use Rattle.stored_water.proofs.account_laws.accounts_stay_within_space.Goals as goal

pub returns : goal.returns
returns c = accounts_stay_within_space
