use Rattle.stored_water.proofs.Accounting.{nothing_fills_out_of_season}
use Rattle.stored_water.proofs.account_laws.nothing_fills_out_of_season.Goals as goal

pub returns : goal.returns
returns c = nothing_fills_out_of_season
