use Rattle.stored_water.proofs.Accounting.{fills_stay_within_volume}
use Rattle.stored_water.proofs.account_laws.fills_stay_within_volume.Goals as goal

pub returns : goal.returns
returns c = fills_stay_within_volume
