use Rattle.stored_water.proofs.ShareProofs.{shares_sum_up}
use Rattle.stored_water.proofs.share_laws.shares_sum_up.Goals as goal

pub returns : goal.returns
returns c = shares_sum_up
