use Rattle.stored_water.proofs.ShareProofs.{order_changes_no_sum}
use Rattle.stored_water.proofs.share_laws.order_changes_no_sum.Goals as goal

pub returns : goal.returns
returns c = order_changes_no_sum
