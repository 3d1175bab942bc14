use Rattle.stored_water.proofs.Accounting.{zones_stay_within_number}
use Rattle.stored_water.proofs.account_laws.zones_stay_within_number.Goals as goal

pub returns : goal.returns
returns c = zones_stay_within_number
