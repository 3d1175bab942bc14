use Rattle.cert_check.proofs.ByteLaws.{yes_exactly_for_histories}
use Rattle.cert_check.proofs.laws.yes_exactly_for_histories.Goals as goal

pub returns : goal.returns
returns c = yes_exactly_for_histories
