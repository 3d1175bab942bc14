use Rattle.stored_water.proofs.ShareProofs.{shares_are_in_proportion}
use Rattle.stored_water.proofs.share_laws.shares_are_in_proportion.Goals as goal

pub returns : goal.returns
returns c = shares_are_in_proportion
