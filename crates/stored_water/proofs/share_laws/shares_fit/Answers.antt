use Rattle.stored_water.proofs.ShareProofs.{shares_fit}
use Rattle.stored_water.proofs.share_laws.shares_fit.Goals as goal

pub returns : goal.returns
returns c = shares_fit
